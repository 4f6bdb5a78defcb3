-- The verdict on a write, by that on its operations and that on its conditions.
use Rattle.std.proofs.Common.{◌≡◌, ◌<◌, ◌≤◌, ℕ, Bool, true, false, not, List, length, refl, ap, sym, ◌∙◌, subst, arith, true≢false}
use Rattle.std.specs.Prelude.{Result, Ok, Err, IfErr, IsErrAnd, OnOk, Option, Some, None, map}
use Rattle.std.specs.List.{list_any}
use Rattle.names.specs.declared.write.Op.{Op}
use Rattle.names.specs.declared.write.Condition.{Condition}
use Rattle.names.specs.declared.write.Write.{Write}
use Rattle.names.specs.declared.refusal.Refusal.{Refusal}
use Rattle.names.specs.declared.refusal.Refusal.TheVariants.{Malformed, UnknownRelation, TypeRefused, TwiceInOneWrite, ForeignZookie, Future, Expired, ConditionFailed, AlreadyThere, NotThere, Full}
use Rattle.meaning.specs.Verdict.{or_else, refused_if, at_place, first_from, is_in_range, is_unknown, is_untyped, is_twice, inserts_again, deletes_nothing, is_full, event_of, write_cause}
use Rattle.zookie.specs.declared.Zookie.{Zookie}
use Rattle.rows.specs.Retained.{Retained, newest, newest_of}
use Rattle.rows.specs.Follows.{IsAccepted}
use Rattle.rows.specs.Judging.{WriteRefused}
use Rattle.verdict.specs.declared.limits.TheConstants.{MAX_CONDITIONS}
use Rattle.verdict.specs.Verdict.{verdict, condition_cause, fails, RefusesWrite}
use Rattle.verdict.specs.inside.Before.{comes_after, comes_before, are_few, is_foreign, is_future, is_expired}

-- the causes of operations, and those of a write that has conditions
abbrev of_ops : Bool → Bool → Bool → Bool → Option Refusal → Option Refusal
of_ops p q r s rest = or_else (refused_if Malformed p) (or_else (refused_if UnknownRelation q) (or_else (refused_if TypeRefused r) (or_else (refused_if TwiceInOneWrite s) rest)))

abbrev of_write : Bool → Bool → Bool → Bool → Bool → Option Refusal → Option Refusal
of_write p many q r s rest =
    or_else (refused_if Malformed p) (or_else (refused_if Malformed many) (or_else (refused_if UnknownRelation q) (or_else (refused_if TypeRefused r) (or_else (refused_if TwiceInOneWrite s) rest))))

abbrev of_presence : Option ℕ → Option ℕ → Bool → Option Refusal
of_presence a b c = or_else (at_place (λ i. AlreadyThere i) a) (or_else (at_place (λ i. NotThere i) b) (refused_if Full c))

unlike : (cause why : Refusal) → comes_after cause ≡ not (comes_after why) → Some cause ≡ Some why → ⊥
unlike cause why other is = by (comes_after why) (sym (let same : cause ≡ why = cc is in ap comes_after same) ∙ other)
  where
    by : (b : Bool) → b ≡ not b → ⊥
    by true h = true≢false h
    by false h = true≢false (sym h)

not_true : (b : Bool) → not b ≡ true → b ≡ false
not_true true is = absurd (true≢false (sym is))
not_true false is = refl

not_false : (b : Bool) → not b ≡ false → b ≡ true
not_false true is = refl
not_false false is = absurd (true≢false is)

none : {A : Type 0} (x : A) → Some x ≡ None → ⊥
none x is = absurd (cc is)

presence_after : (a b : Option ℕ) (c : Bool) (why : Refusal) → comes_after why ≡ false → of_presence a b c ≡ Some why → ⊥
presence_after (Some i) b c why early is = unlike (AlreadyThere i) why (sym (ap not early)) is
presence_after None (Some i) c why early is = unlike (NotThere i) why (sym (ap not early)) is
presence_after None None true why early is = unlike Full why (sym (ap not early)) is
presence_after None None false why early is = absurd (cc is)

-- a cause that comes before the conditions is the write's
stays : (p many q r s : Bool) (rest more : Option Refusal) (why : Refusal) → many ≡ false → (rest ≡ Some why → ⊥) → of_ops p q r s rest ≡ Some why → of_write p many q r s more ≡ Some why
stays true many q r s rest more why few later is = is
stays false true q r s rest more why few later is = absurd (true≢false few)
stays false false true r s rest more why few later is = is
stays false false false true s rest more why few later is = is
stays false false false false true rest more why few later is = is
stays false false false false false rest more why few later is = absurd (later is)

-- where none does, what comes after them decides
record Decides (p many q r s : Bool) (rest more found : Option Refusal) : Type 0 where
  left : rest ≡ found
  whole : of_write p many q r s more ≡ more

late : (p many q r s : Bool) (rest more : Option Refusal) (why : Refusal) → many ≡ false → comes_after why ≡ true → of_ops p q r s rest ≡ Some why → Decides p many q r s rest more (Some why)
late true many q r s rest more why few later is = absurd (unlike Malformed why (sym (ap not later)) is)
late false true q r s rest more why few later is = absurd (true≢false few)
late false false true r s rest more why few later is = absurd (unlike UnknownRelation why (sym (ap not later)) is)
late false false false true s rest more why few later is = absurd (unlike TypeRefused why (sym (ap not later)) is)
late false false false false true rest more why few later is = absurd (unlike TwiceInOneWrite why (sym (ap not later)) is)
late false false false false false rest more why few later is = record { left = is; whole = refl }

clear : (p many q r s : Bool) (rest more : Option Refusal) → many ≡ false → of_ops p q r s rest ≡ None → Decides p many q r s rest more None
clear true many q r s rest more few is = absurd (none Malformed is)
clear false true q r s rest more few is = absurd (true≢false few)
clear false false true r s rest more few is = absurd (none UnknownRelation is)
clear false false false true s rest more few is = absurd (none TypeRefused is)
clear false false false false true rest more few is = absurd (none TwiceInOneWrite is)
clear false false false false false rest more few is = record { left = is; whole = refl }

malformed : (p many : Bool) (more : Option Refusal) → many ≡ true → or_else (refused_if Malformed p) (or_else (refused_if Malformed many) more) ≡ Some Malformed
malformed true many more is = refl
malformed false true more is = refl
malformed false false more is = absurd (true≢false (sym is))

-- the causes of conditions
abbrev of_conditions : Bool → Bool → Bool → Option ℕ → Option Refusal
of_conditions a b c o = or_else (refused_if ForeignZookie a) (or_else (refused_if Future b) (or_else (refused_if Expired c) (at_place (λ i. ConditionFailed i) o)))

is_so : (test : ℕ → Condition Zookie → Bool) (n m : ℕ) (conditions : List (Condition Zookie)) (b value : Bool) → b ≡ list_any (test n) conditions → n ≡ m → b ≡ value → list_any (test m) conditions ≡ value
is_so test n m conditions b value is same was = ap (λ (k : ℕ). list_any (test k) conditions) (sym same) ∙ sym is ∙ was

module _ (r : Retained) (conditions : List (Condition Zookie)) (n m f : ℕ) (a b c : Bool)
    (is_a : a ≡ list_any (is_foreign n) conditions) (number : n ≡ r.number) (home : a ≡ false)
    (is_b : b ≡ list_any (is_future m) conditions) (newest_is : m ≡ newest r) (past : b ≡ false)
    (is_c : c ≡ list_any (is_expired f) conditions) (floor : f ≡ r.floor) where
  known : (cause : Option Refusal) (v : Bool) → c ≡ v → of_conditions false false v (first_from (fails r) 0 conditions) ≡ cause → condition_cause r conditions ≡ cause
  known cause v kept is =
      rw (is_so is_foreign n r.number conditions a false is_a number home, is_so is_future m (newest r) conditions b false is_b newest_is past, is_so is_expired f r.floor conditions c v is_c floor kept) is

  pub expired : c ≡ true → condition_cause r conditions ≡ Some Expired
  expired below = known (Some Expired) true below refl

  module _ (kept : c ≡ false) where
    pub failing : (i : ℕ) → Some i ≡ first_from (fails r) 0 conditions → condition_cause r conditions ≡ Some (ConditionFailed i)
    failing i is = known (Some (ConditionFailed i)) false kept (ap (at_place (λ i. ConditionFailed i)) (sym is))

    pub holding : None ≡ first_from (fails r) 0 conditions → condition_cause r conditions ≡ None
    holding is = known None false kept (ap (at_place (λ i. ConditionFailed i)) (sym is))

-- at the exit of a `?`
pub exit : {T : Type 0} (cause : Refusal → Type 0) (r : Result T Refusal) (e : Refusal) → IsErrAnd r (λ x. x ≡ e) → cause e → IfErr r cause
exit cause (Ok a) e was is = tt
exit cause (Err why) e was is = subst cause (sym was) is

module _ (r : Retained) (write : Write Zookie) where
  abbrev presence : Option Refusal
  presence =
      let n = newest_of r in
      of_presence (first_from (inserts_again n.held.tuples) 0 write.ops) (first_from (deletes_nothing n.held.tuples) 0 write.ops) (is_full n (map event_of write.ops))

  -- more conditions than there may be
  pub too_many : MAX_CONDITIONS < length write.conditions → RefusesWrite r write Malformed
  too_many many = malformed (not (is_in_range write.ops)) (not (are_few write.conditions)) _ (grind (arith, many))

  module _ (few : length write.conditions ≤ MAX_CONDITIONS) where
    not_many : not (are_few write.conditions) ≡ false
    not_many = grind (arith, few)

    early_cause : (why : Refusal) → not (comes_after why) ≡ true → WriteRefused (newest_of r) write.ops why → RefusesWrite r write why
    early_cause why early was =
        let n = newest_of r in let ops = write.ops in
        stays (not (is_in_range ops)) (not (are_few write.conditions)) (list_any (is_unknown n.held.config) ops) (list_any (is_untyped n.held.config) ops) (is_twice ops)
        presence (or_else (condition_cause r write.conditions) presence) why not_many (presence_after _ _ _ why (not_true (comes_after why) early)) was

    pub before : (j : Result (Unit {0}) Refusal) → comes_before j ≡ true → IfErr j (WriteRefused (newest_of r) write.ops) → IfErr j (RefusesWrite r write)
    before (Ok u) early was = tt
    before (Err why) early was = early_cause why early was

    pub before_ok : (P : Type 0) (j : Result (Unit {0}) Refusal) → comes_before j ≡ true → OnOk j P
    before_ok P (Ok u) early = absurd (true≢false (sym early))
    before_ok P (Err why) early = tt

    abbrev Whole : Option Refusal → Type 0
    Whole found = Decides (not (is_in_range write.ops)) (not (are_few write.conditions))
        (list_any (is_unknown (newest_of r).held.config) write.ops) (list_any (is_untyped (newest_of r).held.config) write.ops) (is_twice write.ops)
        presence (or_else (condition_cause r write.conditions) presence) found

    none_early : IsAccepted (newest_of r) write.ops → Whole None
    none_early ok = clear (not (is_in_range write.ops)) (not (are_few write.conditions))
        (list_any (is_unknown (newest_of r).held.config) write.ops) (list_any (is_untyped (newest_of r).held.config) write.ops) (is_twice write.ops)
        presence (or_else (condition_cause r write.conditions) presence) not_many ok

    later_cause : (why : Refusal) → comes_after why ≡ true → write_cause (newest_of r) write.ops ≡ Some why → Whole (Some why)
    later_cause why later is = late (not (is_in_range write.ops)) (not (are_few write.conditions))
        (list_any (is_unknown (newest_of r).held.config) write.ops) (list_any (is_untyped (newest_of r).held.config) write.ops) (is_twice write.ops)
        presence (or_else (condition_cause r write.conditions) presence) why not_many later is

    none_before : (why : Refusal) → not (comes_after why) ≡ false → WriteRefused (newest_of r) write.ops why → Whole (Some why)
    none_before why late was = later_cause why (not_false (comes_after why) late) was

    by_conditions : {found : Option Refusal} → Whole found → (cause : Option Refusal) → condition_cause r write.conditions ≡ cause → verdict r write ≡ or_else cause presence
    by_conditions d cause is = d.whole ∙ ap (λ (o : Option Refusal). or_else o presence) is

    -- refused for its conditions
    pub failed : (j : Result (Unit {0}) Refusal) (why : Refusal) → comes_before j ≡ false → OnOk j (IsAccepted (newest_of r) write.ops) → IfErr j (WriteRefused (newest_of r) write.ops)
        → condition_cause r write.conditions ≡ Some why → RefusesWrite r write why
    failed (Ok u) why late ok err is = by_conditions (none_early ok) (Some why) is
    failed (Err e) why late ok err is = by_conditions (none_before e late err) (Some why) is

    -- its conditions hold
    pub passed_ok : (j : Result (Unit {0}) Refusal) → OnOk j (IsAccepted (newest_of r) write.ops) → condition_cause r write.conditions ≡ None → OnOk j (verdict r write ≡ None)
    passed_ok (Ok u) ok is = let d = none_early ok in by_conditions d None is ∙ d.left
    passed_ok (Err e) ok is = tt

    pub passed_err : (j : Result (Unit {0}) Refusal) → comes_before j ≡ false → IfErr j (WriteRefused (newest_of r) write.ops) → condition_cause r write.conditions ≡ None → IfErr j (RefusesWrite r write)
    passed_err (Ok u) late err is = tt
    passed_err (Err e) late err is = let d = none_before e late err in by_conditions d None is ∙ d.left

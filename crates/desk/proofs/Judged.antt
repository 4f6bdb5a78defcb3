-- No write, floor, marking or base is refused for what the tables did, or for want of memory.
use Rattle.std.proofs.Common.{◌≡◌, ℕ, Bool, true, false, not, List, map, refl, ap, sym, ◌∙◌, true≢false}
use Rattle.std.specs.Prelude.{Option, Some, None}
use Rattle.std.specs.List.{list_any}
use Rattle.names.specs.declared.write.Condition.{Condition}
use Rattle.names.specs.declared.write.Write.{Write}
use Rattle.names.specs.declared.marking.Marking.{Marking}
use Rattle.names.specs.declared.marking.Marking.TheVariants.{Mark, Unmark}
use Rattle.names.specs.declared.refusal.Refusal.{Refusal}
use Rattle.names.specs.declared.refusal.Refusal.TheVariants.{Malformed, UnknownRelation, TypeRefused, TwiceInOneWrite, ForeignZookie, Future, Expired, ConditionFailed, AlreadyThere, NotThere, Full, InUse, StaleBuild, WrongBuild, Memory, StoreFault, Reopen}
use Rattle.meaning.specs.Verdict.{or_else, refused_if, at_place, first_from, is_in_range, is_unknown, is_untyped, is_twice, inserts_again, deletes_nothing, is_full, event_of}
use Rattle.zookie.specs.declared.Zookie.{Zookie}
use Rattle.rows.specs.Retained.{Retained, newest_of}
use Rattle.verdict.specs.Verdict.{verdict, condition_cause, fails, RefusesWrite}
use Rattle.shown.specs.Standing.{Standing, base_cause}
use Rattle.shown.specs.Raising.{floor_cause, RefusesFloor, RefusesMarking, RefusesBase}

abbrev is_of_machine : Refusal → Bool
is_of_machine Memory = true
is_of_machine StoreFault = true
is_of_machine Reopen = true
is_of_machine _ = false

module _ (why : Refusal) (machine : is_of_machine why ≡ true) where
  other : (cause : Refusal) → is_of_machine cause ≡ false → Some cause ≡ Some why → ⊥
  other cause plain is = let same : cause ≡ why = cc is in true≢false (sym machine ∙ sym (ap is_of_machine same) ∙ plain)

  if_other : (cause : Refusal) (b : Bool) → is_of_machine cause ≡ false → refused_if cause b ≡ Some why → ⊥
  if_other cause true plain is = other cause plain is
  if_other cause false plain is = absurd (cc is)

  place_other : (cause : ℕ → Refusal) (o : Option ℕ) → ((i : ℕ) → is_of_machine (cause i) ≡ false) → at_place cause o ≡ Some why → ⊥
  place_other cause (Some i) plain is = other (cause i) (plain i) is
  place_other cause None plain is = absurd (cc is)

  neither : (a b : Option Refusal) → (a ≡ Some why → ⊥) → (b ≡ Some why → ⊥) → or_else a b ≡ Some why → ⊥
  neither (Some a) b first second is = first is
  neither None b first second is = second is

  no_condition : (r : Retained) (conditions : List (Condition Zookie)) → condition_cause r conditions ≡ Some why → ⊥
  no_condition r conditions =
      neither _ _ (if_other ForeignZookie _ refl) (
      neither _ _ (if_other Future _ refl) (
      neither _ _ (if_other Expired _ refl)
      (place_other (λ i. ConditionFailed i) (first_from (fails r) 0 conditions) (λ i. refl))))

  no_verdict : (r : Retained) (write : Write Zookie) → verdict r write ≡ Some why → ⊥
  no_verdict r write =
      let n = newest_of r in
      let ops = write.ops in
      neither _ _ (if_other Malformed (not (is_in_range ops)) refl) (
      neither _ _ (if_other Malformed _ refl) (
      neither _ _ (if_other UnknownRelation (list_any (is_unknown n.held.config) ops) refl) (
      neither _ _ (if_other TypeRefused (list_any (is_untyped n.held.config) ops) refl) (
      neither _ _ (if_other TwiceInOneWrite (is_twice ops) refl) (
      neither _ _ (no_condition r write.conditions) (
      neither _ _ (place_other (λ i. AlreadyThere i) (first_from (inserts_again n.held.tuples) 0 ops) (λ i. refl)) (
      neither _ _ (place_other (λ i. NotThere i) (first_from (deletes_nothing n.held.tuples) 0 ops) (λ i. refl))
      (if_other Full (is_full n (map event_of ops)) refl))))))))

  no_floor_cause : (s : Standing) (zookie : Zookie) → floor_cause s zookie ≡ Some why → ⊥
  no_floor_cause s zookie = neither _ _ (if_other ForeignZookie _ refl) (neither _ _ (if_other Future _ refl) (if_other InUse _ refl))

  no_marking_cause : (s : Standing) (marking : Marking) → RefusesMarking s marking why → ⊥
  no_marking_cause s (Mark node) is = neither _ _ (if_other UnknownRelation _ refl) (if_other Full _ refl) is
  no_marking_cause s (Unmark node) is = absurd (cc is)

  no_base_cause : (s : Standing) (rev : ℕ) → base_cause s rev ≡ Some why → ⊥
  no_base_cause s rev = neither _ _ (if_other StaleBuild _ refl) (if_other WrongBuild _ refl)

pub write_reopens : (r : Retained) (write : Write Zookie) → RefusesWrite r write Reopen → ⊥
write_reopens r write is = no_verdict Reopen refl r write is

pub write_faults : (r : Retained) (write : Write Zookie) → RefusesWrite r write StoreFault → ⊥
write_faults r write is = no_verdict StoreFault refl r write is

pub write_wants : (r : Retained) (write : Write Zookie) → RefusesWrite r write Memory → ⊥
write_wants r write is = no_verdict Memory refl r write is

pub floor_wants : (s : Standing) (zookie : Zookie) → RefusesFloor s zookie Memory → ⊥
floor_wants s zookie is = no_floor_cause Memory refl s zookie is

pub floor_reopens : (s : Standing) (zookie : Zookie) → RefusesFloor s zookie Reopen → ⊥
floor_reopens s zookie is = no_floor_cause Reopen refl s zookie is

pub floor_faults : (s : Standing) (zookie : Zookie) → RefusesFloor s zookie StoreFault → ⊥
floor_faults s zookie is = no_floor_cause StoreFault refl s zookie is

pub marking_wants : (s : Standing) (marking : Marking) → RefusesMarking s marking Memory → ⊥
marking_wants s marking is = no_marking_cause Memory refl s marking is

pub marking_reopens : (s : Standing) (marking : Marking) → RefusesMarking s marking Reopen → ⊥
marking_reopens s marking is = no_marking_cause Reopen refl s marking is

pub marking_faults : (s : Standing) (marking : Marking) → RefusesMarking s marking StoreFault → ⊥
marking_faults s marking is = no_marking_cause StoreFault refl s marking is

pub base_wants : (s : Standing) (rev : ℕ) → RefusesBase s rev Memory → ⊥
base_wants s rev is = no_base_cause Memory refl s rev is

pub base_reopens : (s : Standing) (rev : ℕ) → RefusesBase s rev Reopen → ⊥
base_reopens s rev is = no_base_cause Reopen refl s rev is

pub base_faults : (s : Standing) (rev : ℕ) → RefusesBase s rev StoreFault → ⊥
base_faults s rev is = no_base_cause StoreFault refl s rev is

-- Lists of events, one for each revision.
use Rattle.std.proofs.Common.{◌≡◌, ◌≢◌, ℕ, ◌+◌, ◌-◌, ◌<◌, ◌≤◌, List, [], ◌∷◌, ◌++◌, length, get_or, set, zero, suc, refl, ap, sym, ◌∙◌, append_assoc, append-nil, length-append, arith}
use Rattle.std.specs.Prelude.{Bool, true, false, cond, not, ◌&&◌, ◌||◌, ◌==◌, filter, map, nat_le, nat_lt, Option, Some, None, Result, Ok, Err, OnOk}
use Rattle.std.specs.Borrow.{Bor}
use Rattle.std.specs.Option.{is_some, option_copied, option_to_list, unwrap_or}
use Rattle.std.specs.Slice.{IsItemAt}
use Rattle.std.proofs.lemmas.Bool.{and_parts, leb-true, ltb-false}
use Rattle.std.proofs.lemmas.List.{map-append}
use Rattle.std.proofs.lemmas.List.Elements.{filter-append}
use Rattle.names.specs.declared.tuple.Tuple.{Tuple}
use Rattle.store.specs.Written.{TupleSpan, is_alive, tuples_alive}
use mathlib.Core.Bool.{true≢false}
use Rattle.std.specs.Global.{Vec}
use Rattle.std.proofs.lemmas.Bool.{eqb-true, eq-eqb}
use Rattle.std.proofs.lemmas.Bool.Decides.{nat_tests}
use Rattle.names.specs.declared.commit.Event.{Event}
use Rattle.names.specs.declared.commit.EventKind.TheVariants.{Put, Del}
use Rattle.store.specs.inside.Moves.{slot, event_if, event_at_place, Adds, moves, goes_on, put_of, del_of}
use Rattle.store.specs.declared.parts.ReadSpan.{ReadSpan}
use Rattle.store.specs.inside.Reading.{as_span}

pub slot_pushed : (vs : List (Vec Event)) (v : Vec Event) → v.items ≡ [] → ((k : ℕ) → slot vs k ≡ []) → (k : ℕ) → slot (vs ++ v ∷ []) k ≡ []
slot_pushed [] v e h zero = e
slot_pushed [] v e h (suc k) = refl
slot_pushed (w ∷ vs) v e h zero = h zero
slot_pushed (w ∷ vs) v e h (suc k) = slot_pushed vs v e (λ j. h (suc j)) k

pub slot_at : (vs : List (Vec Event)) (k : ℕ) (d : Vec Event) → k < length vs → slot vs k ≡ (get_or vs k d).items
slot_at [] k d lt = absurd (omega (arith, lt))
slot_at (v ∷ vs) zero d lt = refl
slot_at (v ∷ vs) (suc k) d lt = slot_at vs k d (omega (arith, lt))

pub slot_set : (vs : List (Vec Event)) (at : ℕ) (v : Vec Event) → at < length vs → slot (set vs at v) at ≡ v.items
slot_set [] at v lt = absurd (omega (arith, lt))
slot_set (w ∷ vs) zero v lt = refl
slot_set (w ∷ vs) (suc at) v lt = slot_set vs at v (omega (arith, lt))

pub slot_kept : (vs : List (Vec Event)) (at k : ℕ) (v : Vec Event) → k ≢ at → slot (set vs at v) k ≡ slot vs k
slot_kept [] at k v h = refl
slot_kept (w ∷ vs) zero zero v h = absurd (h refl)
slot_kept (w ∷ vs) zero (suc k) v h = refl
slot_kept (w ∷ vs) (suc at) zero v h = refl
slot_kept (w ∷ vs) (suc at) (suc k) v h = slot_kept vs at k v (λ e. h (ap (λ n. suc n) e))

pub none_more : (xs : List Event) → xs ≡ xs ++ []
none_more [] = refl
none_more (x ∷ xs) = ap (λ l. x ∷ l) (none_more xs)

pub no_event : (b : Bool) (e : Event) (xs : List Event) → b ≡ false → xs ≡ xs ++ event_if b e
no_event b e xs h = none_more xs ∙ ap (λ c. xs ++ event_if c e) (sym h)

-- one list grew
pub slot_grown : (vs ws : List (Vec Event)) (at : ℕ) (v : Vec Event) (e : Event) → at < length vs → ws ≡ set vs at v → v.items ≡ slot vs at ++ e ∷ [] → (k : ℕ) → slot ws k ≡ slot vs k ++ event_if (at == k) e
slot_grown vs ws at v e lt changed grown k = by_test (at == k) refl
  where
    by_test : (b : Bool) → (at == k) ≡ b → slot ws k ≡ slot vs k ++ event_if b e
    by_test true is = ap (λ us. slot us k) changed ∙ ap (slot (set vs at v)) (sym (eqb-true at k is)) ∙ slot_set vs at v lt ∙ grown ∙ ap (λ n. slot vs n ++ e ∷ []) (eqb-true at k is)
    by_test false is = ap (λ us. slot us k) changed ∙ slot_kept vs at k v (λ same. true≢false (sym (eq-eqb at k (sym same)) ∙ is)) ∙ none_more (slot vs k)

pub no_place : (at k n : ℕ) → n ≤ at → k < n → (at == k) ≡ false
no_place at k n h l = grind (arith, nat_tests)

pub below_floor : (rev floor k : ℕ) → rev ≤ floor → (rev == floor + (k + 1)) ≡ false
below_floor rev floor k h = grind (arith, nat_tests)

pub above_floor : (rev floor k : ℕ) → floor < rev → (rev - floor - 1 == k) ≡ (rev == floor + (k + 1))
above_floor rev floor k h = grind (arith, nat_tests)

-- the beginning of a span that is there at the floor is no event above it
not_above : (added floor k : ℕ) → added ≤ floor → (added == floor + (k + 1)) ≡ false
not_above added floor k h = grind (arith, nat_tests)

pub alive_adds : {T E : Type 0} (r : Result T E) (slots : List (Vec Event)) (floor : ℕ) (l : TupleSpan) → is_alive floor l ≡ true
    → OnOk r (Adds slots slots (event_at_place floor l.added l.tuple Put))
alive_adds (Ok x) slots floor l alive = λ k lt.
    let within : l.added ≤ floor = leb-true l.added floor (and_parts (nat_le l.added floor) _ alive).0 in
    sym (append-nil (slot slots k)) ∙ ap (λ b. slot slots k ++ event_if b (put_of l)) (sym (not_above l.added floor k within))
alive_adds (Err e) slots floor l alive = tt

-- a step over the spans
pub placed_more : (new old a b rest all : List Event) → new ≡ (old ++ a) ++ b → old ++ (a ++ (b ++ rest)) ≡ all → new ++ rest ≡ all
placed_more new old a b rest all e so_far =
    ap (λ l. l ++ rest) e ∙ append_assoc (old ++ a) b rest ∙ append_assoc old a (b ++ rest) ∙ so_far

-- a span's beginning and its end
and_false : (r : Bool) → (r && false) ≡ false
and_false true = refl
and_false false = refl

and_true : (r : Bool) → r ≡ (r && true)
and_true true = refl
and_true false = refl

-- a span that ends above the floor, where the tuple does not go on, and one that does not
pub ends_there : (new mid old : List Event) (r on later : Bool) (t u : Tuple) → Some u ≡ cond (not on && later) (Some t) None → mid ≡ old
    → new ≡ mid ++ event_if r (record { tuple = u; kind = Del }) → new ≡ old ++ event_if (r && not on) (record { tuple = t; kind = Del })
ends_there new mid old r true later t u is first second = absurd (true≢false (ap is_some is))
ends_there new mid old r false false t u is first second = absurd (true≢false (ap is_some is))
ends_there new mid old r false true t u is first second =
    second ∙ ap (λ l. l ++ event_if r (record { tuple = u; kind = Del })) first
    ∙ ap (λ b. old ++ event_if b (record { tuple = u; kind = Del })) (and_true r)
    ∙ ap (λ (v : Tuple). old ++ event_if (r && true) (record { tuple = v; kind = Del })) (ap (λ o. unwrap_or o t) is)

pub ends_not : (floor k removed : ℕ) (on : Bool) (t : Tuple) (e : Event) (new old : List Event) → None ≡ cond (not on && nat_lt floor removed) (Some t) None → new ≡ old → new ≡ old ++ event_if ((removed == floor + (k + 1)) && not on) e
ends_not floor k removed true t e new old is same = same ∙ no_event ((removed == floor + (k + 1)) && false) e old (and_false (removed == floor + (k + 1)))
ends_not floor k removed false t e new old is same =
    same ∙ no_event ((removed == floor + (k + 1)) && true) e old (sym (and_true (removed == floor + (k + 1))) ∙ below_floor removed floor k (ltb-false floor removed (no_later (nat_lt floor removed) is)))
  where
    no_later : (b : Bool) → None ≡ cond b (Some t) None → b ≡ false
    no_later true h = absurd (true≢false (sym (ap is_some h)))
    no_later false h = refl

pub length_pushed : {A : Type 0} (xs ys : List A) (x : A) → ys ≡ xs ++ x ∷ [] → length ys ≡ length xs + 1
length_pushed xs ys x e = ap length e ∙ length-append xs (x ∷ [])

-- only the next of the spans decides
pub goes_ahead : (l : TupleSpan) (rest : List ReadSpan) (next : Option (Bor ReadSpan)) → IsItemAt rest 0 next → goes_on l (map as_span (option_to_list (option_copied next))) ≡ goes_on l (map as_span rest)
goes_ahead l [] None is = refl
goes_ahead l [] (Some x) is = absurd (true≢false is.0)
goes_ahead l (m ∷ ms) None is = absurd (true≢false (sym (is.2 (let first : 0 < length (m ∷ ms) = omega arith in first))))
goes_ahead l (m ∷ ms) (Some x) is = ap (λ (s : ReadSpan). goes_on l (as_span s ∷ [])) is.1

pub none_left : {A : Type 0} (xs : List A) → length xs ≡ 0 → xs ≡ []
none_left [] h = refl
none_left (x ∷ xs) h = absurd (omega (arith, h))

-- a step over the spans
pub step_over : (rev : ℕ) (x : ReadSpan) (rest : List ReadSpan) (on : Bool) (new old all : List Event) → on ≡ goes_on (as_span x) (map as_span rest)
    → new ≡ (old ++ event_if (x.added == rev) (put_of (as_span x))) ++ event_if ((x.removed == rev) && not on) (del_of (as_span x))
    → old ++ moves rev (map as_span (x ∷ rest)) ≡ all → new ++ moves rev (map as_span rest) ≡ all
step_over rev x rest on new old all goes grown so_far =
    let later = map as_span rest in
    placed_more new old (event_if (x.added == rev) (put_of (as_span x))) (event_if ((x.removed == rev) && not (goes_on (as_span x) later)) (del_of (as_span x))) (moves rev later) all
    (grown ∙ ap (λ b. (old ++ event_if (x.added == rev) (put_of (as_span x))) ++ event_if ((x.removed == rev) && not b) (del_of (as_span x))) goes) so_far

-- ---- the tuples at the floor

pub alive_there : (rev : ℕ) (l : TupleSpan) → is_alive rev l ≡ true → l.tuple ∷ [] ≡ tuples_alive rev (l ∷ [])
alive_there rev l is = ap (λ b. map (λ (m : TupleSpan). m.tuple) (cond b (l ∷ []) [])) (sym is)

pub not_alive : (rev : ℕ) (l : TupleSpan) (old : List Tuple) → is_alive rev l ≡ false → old ≡ old ++ tuples_alive rev (l ∷ [])
not_alive rev l old is = sym (append-nil old) ∙ ap (λ b. old ++ map (λ (m : TupleSpan). m.tuple) (cond b (l ∷ []) [])) (sym is)

-- such a span is not put above the floor
pub not_put : (floor k : ℕ) (l : TupleSpan) (e : Event) (old : List Event) → is_alive floor l ≡ true → old ≡ old ++ event_if (l.added == floor + (k + 1)) e
not_put floor k l e old is =
    no_event (l.added == floor + (k + 1)) e old (below_floor l.added floor k (leb-true l.added floor (and_parts (nat_le l.added floor) ((l.removed == 0) || nat_lt floor l.removed) is).0))

pub alive_more : (rev : ℕ) (l : TupleSpan) (rest : List TupleSpan) (new old all : List Tuple) → new ≡ old ++ tuples_alive rev (l ∷ []) → old ++ tuples_alive rev (l ∷ rest) ≡ all → new ++ tuples_alive rev rest ≡ all
alive_more rev l rest new old all grown so_far =
    ap (λ ts. ts ++ tuples_alive rev rest) grown
    ∙ append_assoc old (tuples_alive rev (l ∷ [])) (tuples_alive rev rest)
    ∙ ap (λ ts. old ++ ts) (sym (map-append (λ (m : TupleSpan). m.tuple) (filter (is_alive rev) (l ∷ [])) (filter (is_alive rev) rest)) ∙ ap (map (λ (m : TupleSpan). m.tuple)) (sym (filter-append (is_alive rev) (l ∷ []) rest)))
    ∙ so_far

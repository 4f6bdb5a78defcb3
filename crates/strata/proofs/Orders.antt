-- Steps in the order of where they start, without repeats.
use Rattle.std.proofs.Common.{◌≡◌, ℕ, zero, suc, ◌<◌, ◌≤◌, ◌+◌, ◌-◌, List, [], ◌∷◌, length, get_or, refl, ap, ◌∙◌, sym, subst, ⊎_elim, arith, Ordering, Less, Equal, Greater}
use Rattle.std.specs.Prelude.{Bool, true, false, cond, ◌&&◌, nat_eq, nat_lt, All, Contains, ◌↔◌, ◌==◌}
use Rattle.std.specs.Bool.{beq}
use Rattle.std.specs.Ordering.{is_lt, nat_cmp, ordering_then}
use Rattle.std.proofs.lemmas.Bool.{and_parts, and_from, eqb-true, eq-eqb, lt-ltb}
use Rattle.std.specs.Cmp.{IsEquivalence}
use Rattle.std.specs.List.{AllWithin, dedup, dedup_from, between}
use Rattle.std.specs.List.Sorted.{IsNonDecreasingBy, IsPermutation}
use Rattle.std.proofs.lemmas.Bool.{cases_lt, cond_both}
use Rattle.std.proofs.lemmas.List.{get_or_default}
use Rattle.std.proofs.lemmas.List.Edits.{length-between, get_or-between}
use Rattle.std.proofs.lemmas.List.Elements.{All-tail}
use Rattle.std.proofs.lemmas.List.Filters.{All-dedup}
use Rattle.std.proofs.lemmas.List.Kept.{Contains-dedup, Contains-from_dedup}
use Rattle.std.proofs.lemmas.List.Sorted.{Contains-permutation, IsPermutation-sym}
use Rattle.strata.specs.declared.graph.Step.{Step}

module _ {X : Type 0} (n : X → ℕ) where
  order_head : (k : X) (xs : List X) → IsNonDecreasingBy n (k ∷ xs) → All (λ y. n k ≤ n y) xs
  order_head k xs h j d lt = h 0 (suc j) d (omega arith) (omega (arith, lt))

  order_tail : (k : X) (xs : List X) → IsNonDecreasingBy n (k ∷ xs) → IsNonDecreasingBy n xs
  order_tail k xs h i j d le lt = h (suc i) (suc j) d (omega (arith, le)) (omega (arith, lt))

  order_cons : (k : X) (xs : List X) → All (λ y. n k ≤ n y) xs → IsNonDecreasingBy n xs → IsNonDecreasingBy n (k ∷ xs)
  order_cons k xs low h zero zero d le lt = omega arith
  order_cons k xs low h zero (suc j) d le lt = low j d (omega (arith, lt))
  order_cons k xs low h (suc i) zero d le lt = absurd (omega (arith, le))
  order_cons k xs low h (suc i) (suc j) d le lt = h i j d (omega (arith, le)) (omega (arith, lt))

  dedup_from_order : (E : X → X → Bool) (xs : List X) (k : X) → IsNonDecreasingBy n (k ∷ xs) → IsNonDecreasingBy n (dedup_from E k xs)
  dedup_from_order E [] k h = h
  dedup_from_order E (x ∷ xs) k h =
      let low = order_head k (x ∷ xs) h in
      let rest = order_tail k (x ∷ xs) h in
      cond_both (E x k) (dedup_from E k xs) (k ∷ dedup_from E x xs) (IsNonDecreasingBy n)
      (λ _. dedup_from_order E xs k (order_cons k xs (All-tail (λ y. n k ≤ n y) x xs low) (order_tail x xs rest)))
      (λ _. order_cons k (dedup_from E x xs) (All-dedup E (λ y. n k ≤ n y) (x ∷ xs) low) (dedup_from_order E xs x rest))

  pub dedup_order : (E : X → X → Bool) (xs : List X) → IsNonDecreasingBy n xs → IsNonDecreasingBy n (dedup E xs)
  dedup_order E [] h = h
  dedup_order E (x ∷ xs) h = dedup_from_order E xs x h

-- a test that decides equality
module _ {X : Type 0} (E : X → X → Bool) (same : (x y : X) → E x y ≡ true → x ≡ y) (itself : (x : X) → E x x ≡ true) where
  one_way : (x y : X) → E x y ≡ true → E y x ≡ true
  one_way x y e = subst (λ z. E z x ≡ true) (same x y e) (itself x)

  both : (b c : Bool) → (b ≡ true → c ≡ true) → (c ≡ true → b ≡ true) → b ≡ c
  both true c f g = sym (f refl)
  both false true f g = g refl
  both false false f g = refl

  equality : IsEquivalence E
  equality = record {
    refl = itself;
    symm = λ x y. both (E x y) (E y x) (one_way x y) (one_way y x);
    congr = λ x y z e. ap (λ w. E w z) (same x y e);
  }

  -- a sort and a `dedup` keep just what there was
  pub dedup_same : (xs ys : List X) → IsPermutation xs ys → (x : X) → Contains (dedup E ys) x ↔ Contains xs x
  dedup_same xs ys moved x = (
    λ c. Contains-permutation ys xs x (IsPermutation-sym xs ys moved) (Contains-from_dedup E ys x c),
    λ c. Contains-dedup equality same ys x (Contains-permutation xs ys x moved c),
  )

-- the places of the steps that start at a relation
pub record IsPart (steps : List Step) (from first last : ℕ) : Type 0 where
  pub within : last ≤ length steps
  pub before : (k : ℕ) (d : Step) → k < first → (get_or steps k d).from < from
  pub after_first : (k : ℕ) (d : Step) → first ≤ k → k < length steps → from ≤ (get_or steps k d).from
  pub upto_last : (k : ℕ) (d : Step) → k < last → (get_or steps k d).from ≤ from
  pub past : (k : ℕ) (d : Step) → last ≤ k → k < length steps → from < (get_or steps k d).from

pub part_order : (steps : List Step) (from first last : ℕ) → first ≤ length steps → IsPart steps from first last → first ≤ last
part_order steps from first last within part =
    let d : Step = record { from = 0; to = 0; subtracted = false } in
    ⊎_elim
    (λ less.
    let low = part.before last d less in
    let high = part.past last d (omega arith) (omega (arith, less, within)) in
    absurd (omega (arith, low, high)))
    (λ more. more)
    (cases_lt last first)

pub part_is : (steps : List Step) (from first last : ℕ) → first ≤ last → IsPart steps from first last → (s : Step) → Contains (between first last steps) s ↔ (Contains steps s × (s.from ≡ from))
part_is steps from first last le part s = (inside, outside)
  where
    long : length (between first last steps) ≡ last - first
    long = length-between steps first last part.within

    inside : Contains (between first last steps) s → Contains steps s × (s.from ≡ from)
    inside (k, lt, e) =
        let low : first + k < last = omega (arith, lt, long, le) in
        let lt_all : first + k < length steps = omega (arith, low, part.within) in
        let at : get_or steps (first + k) s ≡ s = sym (get_or-between steps first last k s low) ∙ e in
        let above = part.after_first (first + k) s (omega arith) lt_all in
        let below = part.upto_last (first + k) s low in
        let start = ap (λ (z : Step). z.from) at in
        ((first + k, lt_all, at), omega (arith, above, below, start))

    outside : Contains steps s × (s.from ≡ from) → Contains (between first last steps) s
    outside ((k, lt, e), is) =
        let start = ap (λ (z : Step). z.from) e in
        let low : first ≤ k = ⊎_elim (λ less. let b = part.before k s less in absurd (omega (arith, b, start, is))) (λ more. more) (cases_lt k first) in
        let high : k < last = ⊎_elim (λ less. less) (λ more. let a = part.past k s more lt in absurd (omega (arith, a, start, is))) (cases_lt k last) in
        let back : first + (k - first) ≡ k = omega (arith, low) in
        let inside_part : first + (k - first) < last = omega (arith, back, high) in
        (k - first, omega (arith, long, low, high), get_or-between steps first last (k - first) s inside_part ∙ ap (λ q. get_or steps q s) back ∙ e)

-- from the places that two searches in the order gave
pub part_from : (steps : List Step) (from first last : ℕ) → last ≤ length steps → AllWithin (λ s. s.from < from) steps 0 first → AllWithin (λ s. from ≤ s.from) steps first (length steps) → AllWithin (λ s. s.from ≤ from) steps 0 last → AllWithin (λ s. from < s.from) steps last (length steps) → IsPart steps from first last
part_from steps from first last within before after_first upto_last past = record {
  within = within;
  before = λ k d h. before k d (omega arith) h;
  after_first = after_first;
  upto_last = λ k d h. upto_last k d (omega arith) h;
  past = past;
}

-- the order and the equality that `derive` gives to steps
pub starts_rise : (a b : ℕ) (rest : Ordering) → is_lt (ordering_then (nat_cmp b a) rest) ≡ false → a ≤ b
starts_rise a b rest h = ⊎_elim (λ less. absurd (not_less (nat_lt b a) (lt-ltb b a less) h)) (λ more. more) (cases_lt b a)
  where
    not_less : (t : Bool) → t ≡ true → is_lt (ordering_then (cond t Less (cond (b == a) Equal Greater)) rest) ≡ false → ⊥
    not_less true e f = cc
    not_less false e f = cc

pub same_step : (x y : Step) → (nat_eq x.from y.from && (nat_eq x.to y.to && beq x.subtracted y.subtracted)) ≡ true → x ≡ y
same_step x y e =
    let start = and_parts (nat_eq x.from y.from) (nat_eq x.to y.to && beq x.subtracted y.subtracted) e in
    let end = and_parts (nat_eq x.to y.to) (beq x.subtracted y.subtracted) start.1 in
    let from : x.from ≡ y.from = eqb-true x.from y.from start.0 in
    let to : x.to ≡ y.to = eqb-true x.to y.to end.0 in
    let sign : x.subtracted ≡ y.subtracted = one_sign x.subtracted y.subtracted end.1 in
    let a : x ≡ record { from = y.from; to = x.to; subtracted = x.subtracted } = ap (λ (n : ℕ). record { from = n; to = x.to; subtracted = x.subtracted }) from in
    let b : record { from = y.from; to = x.to; subtracted = x.subtracted } ≡ record { from = y.from; to = y.to; subtracted = x.subtracted } = ap (λ (n : ℕ). record { from = y.from; to = n; subtracted = x.subtracted }) to in
    a ∙ b ∙ ap (λ (t : Bool). record { from = y.from; to = y.to; subtracted = t }) sign
  where
    one_sign : (s t : Bool) → beq s t ≡ true → s ≡ t
    one_sign true true e = refl
    one_sign false false e = refl
    one_sign true false e = cc
    one_sign false true e = cc

pub step_itself : (x : Step) → (nat_eq x.from x.from && (nat_eq x.to x.to && beq x.subtracted x.subtracted)) ≡ true
step_itself x = and_from _ _ (eq-eqb x.from x.from refl) (and_from _ _ (eq-eqb x.to x.to refl) (itself x.subtracted))
  where
    itself : (s : Bool) → beq s s ≡ true
    itself true = refl
    itself false = refl

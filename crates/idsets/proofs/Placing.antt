-- Where an id stands among ids in order, and what they are when it is put in or taken out there.
use Rattle.std.proofs.Common.{◌≡◌, ℕ, zero, suc, ◌+◌, ◌<◌, ◌≤◌, List, [], ◌∷◌, length, take, drop, get_or, Bool, true, false, refl, ap, sym, ◌∙◌, ◌⊎◌, inl, inr, arith, length-take, length-drop, add-one}
use Rattle.std.specs.Prelude.{◌&&◌, ◌||◌, not, nat_eq}
use Rattle.std.specs.List.{insert, remove}
use Rattle.std.specs.List.Sorted.{IsStrictlyIncreasing}
use Rattle.std.specs.Prelude.{nat_lt}
use Rattle.std.proofs.lemmas.Bool.{cases_lt, cases_order, eqb-true, eqb-false, le-ltb, true_from_ne_false, false≢true}
use Rattle.std.proofs.lemmas.List.{get_or-take, get_or-drop, drop_more}
use Rattle.idsets.specs.Sets.{has, IsFirst}
use Rattle.idsets.specs.Places.{AreBelow, AreFrom, IsPlace}
use Rattle.idsets.proofs.Having.{has_at, place_in, lacks, has-append, has_parts, same_tests}
use Rattle.idsets.proofs.Rising.{below_later, le_later, rising_one, rising_take, rising_drop, rising_join}

pub below_to : (ids : List ℕ) (id at : ℕ) → IsStrictlyIncreasing ids → at < length ids → get_or ids at 0 < id → AreBelow ids id (at + 1)
below_to ids id at up within lt k l = omega (arith, le_later ids k at up (omega arith) within)

pub from_to : (ids : List ℕ) (id at : ℕ) → IsStrictlyIncreasing ids → at < length ids → id ≤ get_or ids at 0 → AreFrom ids id at
from_to ids id at up within le k l m = omega (arith, le_later ids at k up l m)

module _ (ids : List ℕ) (id at : ℕ) (up : IsStrictlyIncreasing ids) (is : IsPlace ids id at) where
  -- ids that rise have it at that place or not at all
  pub elsewhere : (at < length ids → get_or ids at 0 ≡ id → ⊥) → has ids id ≡ false
  elsewhere none = lacks ids id (λ k within e. by k within e (cases_order at k))
    where
      by : (k : ℕ) → k < length ids → get_or ids k 0 ≡ id → (at ≡ k) ⊎ ((at < k) ⊎ (k < at)) → ⊥
      by k within e (inl same) = none (omega arith) (ap (λ n. get_or ids n 0) same ∙ e)
      by k within e (inr (inl l)) = let a : id ≤ get_or ids at 0 = is.from at (omega arith) (omega arith) in omega (arith, below_later ids at k up l within)
      by k within e (inr (inr l)) = omega (arith, is.below k l)

  pub is_there : at < length ids → nat_eq (get_or ids at 0) id ≡ has ids id
  is_there within = same_tests (nat_eq (get_or ids at 0) id) (has ids id) (λ h. has_at ids at id within (eqb-true (get_or ids at 0) id h))
      (λ h. true_from_ne_false (nat_eq (get_or ids at 0) id) (λ no. false≢true (sym (elsewhere (λ _ e. eqb-false (get_or ids at 0) id no e)) ∙ h)))

  pub is_absent : length ids ≤ at → nat_lt at (length ids) ≡ has ids id
  is_absent past = le-ltb at (length ids) past ∙ sym (elsewhere (λ l _. omega arith))

  -- the id at the place is the first that is not below
  pub first_here : at < length ids → IsFirst ids id (get_or ids at 0)
  first_here within = record {
    there = has_at ids at (get_or ids at 0) within refl;
    from = is.from at (omega arith) within;
    least = λ other h le. least other (place_in ids other h) le;
  }
    where
      least : (other : ℕ) → (k : ℕ) × (k < length ids) × (get_or ids k 0 ≡ other) → id ≤ other → get_or ids at 0 ≤ other
      least other p le = which (cases_lt p.0 at)
        where
          which : (p.0 < at) ⊎ (at ≤ p.0) → get_or ids at 0 ≤ other
          which (inl l) = absurd (omega (arith, is.below p.0 l, p.2))
          which (inr l) = omega (arith, le_later ids at p.0 up l p.1, p.2)

  -- past the last place all are below
  pub first_past : length ids ≤ at → (other : ℕ) → has ids other ≡ true → other < id
  first_past past other h = under (place_in ids other h)
    where
      under : (k : ℕ) × (k < length ids) × (get_or ids k 0 ≡ other) → other < id
      under p = let l : get_or ids p.0 0 < id = is.below p.0 (omega (arith, p.1)) in omega (arith, p.2)

  module _ (none : has ids id ≡ false) where
    above : (k : ℕ) → at ≤ k → k < length ids → id < get_or ids k 0
    above k l within = by (cases_lt id (get_or ids k 0))
      where
        by : (id < get_or ids k 0) ⊎ (get_or ids k 0 ≤ id) → id < get_or ids k 0
        by (inl less) = less
        by (inr more) =
            let e : get_or ids k 0 ≡ id = omega (arith, is.from k l within) in
            absurd (false≢true (sym none ∙ has_at ids k id within e))

    later : IsStrictlyIncreasing (id ∷ drop at ids)
    later = rising_join (id ∷ []) (drop at ids) (rising_one id) (rising_drop ids at up) over
      where
        over : (j k : ℕ) → j < length (id ∷ []) → k < length (drop at ids) → get_or (id ∷ []) j 0 < get_or (drop at ids) k 0
        over zero k l m = omega (arith, above (at + k) (omega arith) (omega (arith, length-drop at ids)), get_or-drop at ids k 0)
        over (suc j) k l m = absurd (omega arith)

    pub rising_insert : IsStrictlyIncreasing (insert ids at id)
    rising_insert = rising_join (take at ids) (id ∷ drop at ids) (rising_take ids at up) later over
      where
        over : (j k : ℕ) → j < length (take at ids) → k < length (id ∷ drop at ids) → get_or (take at ids) j 0 < get_or (id ∷ drop at ids) k 0
        over j k l m =
            let few : j < at = omega (arith, length-take at ids) in
            let first : get_or (id ∷ drop at ids) 0 0 ≤ get_or (id ∷ drop at ids) k 0 = le_later (id ∷ drop at ids) 0 k later (omega arith) m in
            omega (arith, is.below j few, get_or-take at ids j 0 few)

    or_turn : (t n d : Bool) → (t || (n || d)) ≡ (n || (t || d))
    or_turn true true d = refl
    or_turn true false d = refl
    or_turn false n d = refl

    pub has-insert : (other : ℕ) → has (insert ids at id) other ≡ (nat_eq other id || has ids other)
    has-insert other =
        has-append (take at ids) (id ∷ drop at ids) other ∙ or_turn (has (take at ids) other) (nat_eq other id) (has (drop at ids) other)
        ∙ ap (λ b. nat_eq other id || b) (sym (has_parts ids at other))

module _ (ids : List ℕ) (id at : ℕ) (up : IsStrictlyIncreasing ids) (within : at < length ids) (same : get_or ids at 0 ≡ id) where
  before_it : (k : ℕ) → k < length (take at ids) → get_or (take at ids) k 0 < id
  before_it k l =
      let few : k < at = omega (arith, length-take at ids) in
      omega (arith, below_later ids k at up few within, get_or-take at ids k 0 few)

  after_it : (k : ℕ) → k < length (drop (suc at) ids) → id < get_or (drop (suc at) ids) k 0
  after_it k l =
      let some : suc at + k < length ids = omega (arith, length-drop (suc at) ids) in
      omega (arith, below_later ids at (suc at + k) up (omega arith) some, get_or-drop (suc at) ids k 0)

  pub rising_remove : IsStrictlyIncreasing (remove ids at)
  rising_remove = rising_join (take at ids) (drop (suc at) ids) (rising_take ids at up) (rising_drop ids (suc at) up) (λ j k l m. omega (arith, before_it j l, after_it k m))

  without : (t n d : Bool) → (n ≡ true → (t ≡ false) × (d ≡ false)) → (t || d) ≡ ((t || (n || d)) && not n)
  without true true d h = absurd (false≢true (sym (h refl).0))
  without true false d h = refl
  without false true true h = absurd (false≢true (sym (h refl).1))
  without false true false h = refl
  without false false true h = refl
  without false false false h = refl

  parts : (other : ℕ) → has ids other ≡ (has (take at ids) other || (nat_eq other id || has (drop (suc at) ids) other))
  parts other =
      has_parts ids at other
      ∙ ap (λ l. has (take at ids) other || has l other) (drop_more ids at 0 within ∙ ap (λ x. x ∷ drop (at + 1) ids) same ∙ ap (λ n. id ∷ drop n ids) (add-one at))

  pub has-remove : (other : ℕ) → has (remove ids at) other ≡ (has ids other && not (nat_eq other id))
  has-remove other =
      has-append (take at ids) (drop (suc at) ids) other
      ∙ without (has (take at ids) other) (nat_eq other id) (has (drop (suc at) ids) other) none
      ∙ ap (λ b. b && not (nat_eq other id)) (sym (parts other))
    where
      none : nat_eq other id ≡ true → (has (take at ids) other ≡ false) × (has (drop (suc at) ids) other ≡ false)
      none h =
          let e : other ≡ id = eqb-true other id h in
          (lacks (take at ids) other (λ k l is. omega (arith, before_it k l)), lacks (drop (suc at) ids) other (λ k l is. omega (arith, after_it k l)))

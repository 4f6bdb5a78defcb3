-- Whether a tuple stands twice, by the places of the operations.
use Rattle.std.proofs.Common.{◌≡◌, ℕ, zero, suc, ◌+◌, ◌<◌, ◌≤◌, ◌||◌, Bool, true, false, List, [], ◌∷◌, length, get_or, refl, ap, sym, ◌∙◌, subst, arith, Option, Some, ⊎_elim, true≢false}
use Rattle.std.specs.Prelude.{Contains, All}
use Rattle.std.specs.List.{list_any, insert, AllByRecursion, AllWithin, HoldsAt, AllAdjacentBelow}
use Rattle.std.specs.List.Sorted.{IsStrictlySortedBy, IsNonDecreasingBy, IsPartitionPoint, IsSortedBy}
use Rattle.std.specs.Option.{option_cmp, option_map}
use Rattle.std.proofs.lemmas.Option.{slice_get-get_or}
use Rattle.std.specs.Ordering.{is_lt, is_eq, ordering_reverse, ordering_index}
use Rattle.std.specs.declared.cmp.Ordering.{Ordering}
use Rattle.std.specs.declared.cmp.Ordering.TheVariants.{Less, Equal, Greater}
use Rattle.std.specs.Cmp.{IsTotalOrder}
use Rattle.std.specs.Cmp.Lexicographic.{options_total}
use Rattle.std.proofs.lemmas.Bool.{cases_lt}
use Rattle.std.proofs.lemmas.Cmp.{on_total}
use Rattle.std.proofs.lemmas.List.Elements.{All-cons}
use Rattle.std.proofs.lemmas.List.Sorted.{IsPermutation-insert, All-permutation, Contains-permutation, length_permutation, searchable_from_sorted}
use Rattle.names.specs.Order.{is_same_tuple, tuple_cmp}
use Rattle.names.specs.declared.tuple.Tuple.{Tuple}
use Rattle.names.specs.declared.write.Op.{Op}
use Rattle.meaning.specs.Verdict.{is_twice}
use Rattle.meaning.proofs.TupleSets.{tuples_total}
use Rattle.meaning.proofs.Lists.{contains_here, contains_there}
use Rattle.rows.specs.inside.Places.{tuple_at}

-- how the tuples at two places compare
abbrev pub by_place : List Op → ℕ → ℕ → Ordering
by_place ops p q = option_cmp tuple_cmp (tuple_at ops p) (tuple_at ops q)

pub places_total : (ops : List Op) → IsTotalOrder (by_place ops)
places_total ops = on_total (tuple_at ops) (options_total tuples_total)

or_right : (a b : Bool) → b ≡ true → (a || b) ≡ true
or_right true b h = refl
or_right false b h = h

less-equal : (o : Ordering) → o ≡ Less → o ≡ Equal → ⊥
less-equal o h k = true≢false (sym (ap is_lt h) ∙ ap is_lt k)

greater-equal : (o : Ordering) → o ≡ Greater → o ≡ Equal → ⊥
greater-equal o h k = true≢false (sym (ap is_eq k) ∙ ap is_eq h)

is_less : (o : Ordering) → true ≡ is_lt o → o ≡ Less
is_less Less h = refl
is_less Equal h = absurd (true≢false h)
is_less Greater h = absurd (true≢false h)

unequal : (o : Ordering) → (o ≡ Equal → ⊥) → is_eq o ≡ false
unequal Less h = refl
unequal Equal h = absurd (h refl)
unequal Greater h = refl

-- ---- two places with one tuple

again_at : (t : Tuple) (ops : List Op) (q : ℕ) → option_cmp tuple_cmp (Some t) (tuple_at ops q) ≡ Equal → list_any (λ p. is_same_tuple t p.tuple) ops ≡ true
again_at t [] q e = absurd (greater-equal _ refl e)
again_at t (o ∷ os) zero e = ap (λ (b : Bool). b || list_any (λ p. is_same_tuple t p.tuple) os) (ap is_eq e)
again_at t (o ∷ os) (suc q) e = or_right (is_same_tuple t o.tuple) _ (again_at t os q e)

pub twice_at : (ops : List Op) (p q : ℕ) → p < q → by_place ops p q ≡ Equal → q < length ops → is_twice ops ≡ true
twice_at [] p q below e within = absurd (omega (arith, within))
twice_at (o ∷ os) p zero below e within = absurd (omega (arith, below))
twice_at (o ∷ os) zero (suc q) below e within = ap (λ (b : Bool). b || is_twice os) (again_at o.tuple os q e)
twice_at (o ∷ os) (suc p) (suc q) below e within = or_right (list_any (λ p. is_same_tuple o.tuple p.tuple) os) _ (twice_at os p q (omega (arith, below)) e (omega (arith, within)))

never_again : (t : Tuple) (ops : List Op) → ((q : ℕ) → q < length ops → option_cmp tuple_cmp (Some t) (tuple_at ops q) ≡ Equal → ⊥) → list_any (λ p. is_same_tuple t p.tuple) ops ≡ false
never_again t [] other = refl
never_again t (o ∷ os) other =
    ap (λ (b : Bool). b || list_any (λ p. is_same_tuple t p.tuple) os) (unequal (tuple_cmp t o.tuple) (other 0 (omega arith)))
    ∙ never_again t os (λ q within e. other (suc q) (omega (arith, within)) e)

pub once_everywhere : (ops : List Op) → ((p q : ℕ) → p < q → q < length ops → by_place ops p q ≡ Equal → ⊥) → is_twice ops ≡ false
once_everywhere [] other = refl
once_everywhere (o ∷ os) other =
    ap (λ (b : Bool). b || is_twice os) (never_again o.tuple os (λ q within e. other 0 (suc q) (omega arith) (omega (arith, within)) e))
    ∙ once_everywhere os (λ p q below within e. other (suc p) (suc q) (omega (arith, below)) (omega (arith, within)) e)

-- ---- tuples that rise

abbrev pub AreRising : List Op → Type 0
AreRising ops = AllAdjacentBelow (λ o p. true ≡ is_lt (tuple_cmp o.tuple p.tuple)) ops (length ops)

later : (o : Op) (ops : List Op) → AreRising (o ∷ ops) → AreRising ops
later o ops up k d within =
    let next : suc k + 1 ≡ suc (k + 1) = omega arith in
    up (suc k) d (omega (arith, within)) ∙ ap (λ (m : ℕ). is_lt (tuple_cmp (get_or ops k d).tuple (get_or (o ∷ ops) m d).tuple)) next

above : (t : Tuple) (ops : List Op) → ((d : Op) → 0 < length ops → tuple_cmp t (get_or ops 0 d).tuple ≡ Less) → AreRising ops → list_any (λ p. is_same_tuple t p.tuple) ops ≡ false
above t [] first up = refl
above t (o ∷ os) first up =
    let here : tuple_cmp t o.tuple ≡ Less = first o (omega arith) in
    ap (λ (b : Bool). b || list_any (λ p. is_same_tuple t p.tuple) os) (ap is_eq here)
    ∙ above t os (λ d some. tuples_total.trans t o.tuple (get_or os 0 d).tuple here (is_less _ (up 0 d (omega (arith, some))))) (later o os up)

pub rising_once : (ops : List Op) → AreRising ops → is_twice ops ≡ false
rising_once [] up = refl
rising_once (o ∷ os) up =
    ap (λ (b : Bool). b || is_twice os) (above o.tuple os (λ d some. is_less _ (up 0 d (omega (arith, some)))) (later o os up))
    ∙ rising_once os (later o os up)

-- ---- a place among those in order

module _ (R : ℕ → ℕ → Ordering) (o : IsTotalOrder R) where
  turned_less : (p q : ℕ) → R p q ≡ Greater → R q p ≡ Less
  turned_less p q h = o.antisymm q p ∙ ap ordering_reverse h

  all_between : (P : ℕ → Type 0) (ps : List ℕ) (at p : ℕ) → AllByRecursion P ps → P p → AllByRecursion P (insert ps at p)
  all_between P [] zero p all one = (one, tt)
  all_between P [] (suc at) p all one = (one, tt)
  all_between P (x ∷ ps) zero p all one = (one, all)
  all_between P (x ∷ ps) (suc at) p all one = (all.0, all_between P ps at p all.1 one)

  all_above : (p : ℕ) (ps : List ℕ) → AllWithin (λ y. R y p ≡ Greater) ps 0 (length ps) → AllByRecursion (λ y. R p y ≡ Less) ps
  all_above p [] above = tt
  all_above p (x ∷ ps) above = (turned_less x p (above 0 0 (omega arith) (omega arith)), all_above p ps (λ k d low high. above (suc k) d (omega arith) (omega (arith, high))))

  pub sorted_more : (ps : List ℕ) (at p : ℕ) → at ≤ length ps → IsStrictlySortedBy R ps → IsPartitionPoint (λ y. R y p ≡ Less) (λ y. R y p ≡ Greater) ps at → IsStrictlySortedBy R (insert ps at p)
  unfolding IsStrictlySortedBy
  sorted_more [] zero p within sorted (below, above) = (tt, tt)
  sorted_more [] (suc at) p within sorted (below, above) = (tt, tt)
  sorted_more (x ∷ ps) zero p within sorted (below, above) = (all_above p (x ∷ ps) above, sorted)
  sorted_more (x ∷ ps) (suc at) p within sorted (below, above) = (
    all_between (λ y. R x y ≡ Less) ps at p sorted.0 (below 0 0 (omega arith) (omega arith)),
    sorted_more ps at p (omega (arith, within)) sorted.1
        (λ k d low high. below (suc k) d (omega arith) (omega (arith, high)), λ k d low high. above (suc k) d (omega (arith, low)) (omega (arith, high))),
  )

  after_first : (x : ℕ) (ps : List ℕ) (d : ℕ) → AllByRecursion (λ y. R x y ≡ Less) ps → 0 < length ps → R x (get_or ps 0 d) ≡ Less
  after_first x [] d all some = absurd (omega (arith, some))
  after_first x (y ∷ ps) d all some = all.0

  never_falls : (ps : List ℕ) → IsStrictlySortedBy R ps → IsSortedBy (λ a b. is_lt (R a b)) ps
  unfolding IsStrictlySortedBy
  never_falls [] sorted k d low high = absurd (omega (arith, high))
  never_falls (x ∷ ps) sorted zero d low high =
      ap is_lt (o.antisymm (get_or ps 0 d) x ∙ ap ordering_reverse (after_first x ps d sorted.0 (omega (arith, high))))
  never_falls (x ∷ ps) sorted (suc k) d low high =
      let next : suc k + 1 ≡ suc (k + 1) = omega arith in
      ap (λ (m : ℕ). is_lt (R (get_or (x ∷ ps) m d) (get_or ps k d))) next ∙ never_falls ps sorted.1 k d (omega arith) (omega (arith, high))

  pub searchable : (ps : List ℕ) (p : ℕ) → IsStrictlySortedBy R ps → IsNonDecreasingBy (λ y. ordering_index (R y p)) ps
  searchable ps p sorted = searchable_from_sorted o (λ y. y) ps p (never_falls ps sorted)

-- ---- the places of the first operations, in the order of their tuples

pub record Placed (ops : List Op) (i : ℕ) (ps : List ℕ) : Type 0 where
  pub many : length ps ≡ i
  pub within : All (λ p. p < i) ps
  pub held : (p : ℕ) → p < i → Contains ps p
  pub sorted : IsStrictlySortedBy (by_place ops) ps
  pub once : (p q : ℕ) → p < q → q < i → by_place ops p q ≡ Equal → ⊥

pub none_placed : (ops : List Op) → Placed ops 0 []
unfolding IsStrictlySortedBy
none_placed ops = record {
  many = refl;
  within = λ k d low. absurd (omega (arith, low));
  held = λ p low. absurd (omega (arith, low));
  sorted = tt;
  once = λ p q below low e. absurd (omega (arith, low));
}

pub all_placed : (ops : List Op) (i : ℕ) (ps : List ℕ) → length ops ≤ i → Placed ops i ps → is_twice ops ≡ false
all_placed ops i ps all placed = once_everywhere ops (λ p q below within. placed.once p q below (omega (arith, within, all)))

-- a search for the tuple of the next operation
module _ (ops : List Op) (i : ℕ) (o : Op) (ps : List ℕ) (more : i < length ops) (placed : Placed ops i ps) where
  abbrev t : Tuple
  t = (get_or ops i o).tuple

  is : tuple_at ops i ≡ Some t
  is = ap (option_map (λ p. p.tuple)) (slice_get-get_or ops i o more)

  abbrev beside : ℕ → Ordering
  beside p = option_cmp tuple_cmp (tuple_at ops p) (Some t)

  as_placed : (p : ℕ) → beside p ≡ by_place ops p i
  as_placed p = ap (λ (u : Option Tuple). option_cmp tuple_cmp (tuple_at ops p) u) (sym is)

  pub found_twice : (k : ℕ) → k < length ps → HoldsAt (λ p. beside p ≡ Equal) ps k → is_twice ops ≡ true
  found_twice k within equal = twice_at ops (get_or ps k 0) i (placed.within k 0 within) (sym (as_placed (get_or ps k 0)) ∙ equal 0) more

  module _ (at : ℕ) (room : at ≤ length ps) (parts : IsNonDecreasingBy (λ p. ordering_index (beside p)) ps → IsPartitionPoint (λ p. beside p ≡ Less) (λ p. beside p ≡ Greater) ps at) where
    parted : IsPartitionPoint (λ p. by_place ops p i ≡ Less) (λ p. by_place ops p i ≡ Greater) ps at
    parted =
        let found = parts (subst (λ (u : Option Tuple). IsNonDecreasingBy (λ p. ordering_index (option_cmp tuple_cmp (tuple_at ops p) u)) ps) is (searchable (by_place ops) (places_total ops) ps i placed.sorted)) in
        (λ k d low high. sym (as_placed (get_or ps k d)) ∙ found.0 k d low high, λ k d low high. sym (as_placed (get_or ps k d)) ∙ found.1 k d low high)

    unlike : (p : ℕ) → Contains ps p → by_place ops p i ≡ Equal → ⊥
    unlike p (k, within, stands) e =
        let same : by_place ops (get_or ps k p) i ≡ Equal = ap (λ (q : ℕ). by_place ops q i) stands ∙ e in
        ⊎_elim (λ (low : k < at). less-equal _ (parted.0 k p (omega arith) low) same) (λ (high : at ≤ k). greater-equal _ (parted.1 k p high within) same) (cases_lt k at)

    still_once : (p q : ℕ) → p < q → q < i + 1 → by_place ops p q ≡ Equal → ⊥
    still_once p q below within e =
        ⊎_elim (λ (low : q < i). placed.once p q below low e)
        (λ (past : i ≤ q). let here : q ≡ i = omega (arith, past, within) in unlike p (placed.held p (omega (arith, below, here))) (ap (λ (r : ℕ). by_place ops p r) (sym here) ∙ e)) (cases_lt q i)

    still_held : (p : ℕ) → p < i + 1 → Contains (i ∷ ps) p
    still_held p within =
        ⊎_elim (λ (low : p < i). contains_there i p ps (placed.held p low)) (λ (past : i ≤ p). subst (λ (q : ℕ). Contains (i ∷ ps) q) (omega (arith, past, within)) (contains_here i ps)) (cases_lt p i)

    pub one_placed : Placed ops (i + 1) (insert ps at i)
    one_placed =
        let moved = IsPermutation-insert ps at i in
        record {
          many = let same = length_permutation (i ∷ ps) (insert ps at i) moved in omega (arith, same, placed.many);
          within = All-permutation (λ p. p < i + 1) (i ∷ ps) (insert ps at i) moved (All-cons (λ p. p < i + 1) i ps (omega arith) (λ k d low. let one = placed.within k d low in omega (arith, one)));
          held = λ p within. Contains-permutation (i ∷ ps) (insert ps at i) p moved (still_held p within);
          sorted = sorted_more (by_place ops) (places_total ops) ps at i room placed.sorted parted;
          once = still_once;
        }

-- Lists in ascending order.
use Rattle.std.proofs.Common.{◌≡◌, ℕ, zero, suc, ◌≤◌, ◌+◌, List, [], ◌∷◌, length, get_or, true, refl, ap, sym, subst, ◌∙◌, ⊎_elim, arith}
use Rattle.std.specs.Prelude.{◌⊎◌, Contains, Some}
use Rattle.std.specs.List.{slice_get, AllByRecursion, AllAdjacentBelow}
use Rattle.std.specs.List.Sorted.{IsStrictlySortedBy, IsNonDecreasingBy, IsPartitionPoint}
use Rattle.std.specs.Cmp.{IsTotalOrder}
use Rattle.std.specs.Ordering.{is_lt, ordering_index, ordering_reverse}
use Rattle.std.specs.declared.cmp.Ordering.{Ordering}
use Rattle.std.specs.declared.cmp.Ordering.TheVariants.{Less, Equal, Greater}
use Rattle.std.proofs.lemmas.Bool.{cases_lt}
use Rattle.std.proofs.lemmas.Cmp.{tied_itself}
use Rattle.std.proofs.lemmas.Map.Keys.{Less-from_sorted}
use Rattle.std.proofs.lemmas.Option.{none-some, same_Some, slice_get_within, get_or_from_slice_get}
use Rattle.meaning.proofs.Lists.{contains_here, contains_there, contains_cases, contains_none}
use Rattle.idsets.specs.Naming.{AreDistinct}

-- ---- places

pub get_contains : {A : Type 0} (xs : List A) (i : ℕ) (x : A) → slice_get xs i ≡ Some x → Contains xs x
get_contains [] i x h = absurd (none-some x h)
get_contains (y ∷ ys) zero x h = subst (Contains (y ∷ ys)) (same_Some y x h) (contains_here y ys)
get_contains (y ∷ ys) (suc i) x h = contains_there y x ys (get_contains ys i x h)

pub contains_get : {A : Type 0} (xs : List A) (x : A) → Contains xs x → (i : ℕ) × (slice_get xs i ≡ Some x)
contains_get [] x c = absurd (contains_none x c)
contains_get (y ∷ ys) x c = ⊎_elim
    (λ e. (zero, ap (λ z. Some z) e))
    (λ h. let r = contains_get ys x h in (suc r.0, r.1))
    (contains_cases y x ys c)

-- ---- a strict order

pub less_is : (o : Ordering) → is_lt o ≡ true → o ≡ Less
less_is Less h = refl
less_is Equal h = cc
less_is Greater h = cc

module _ {N : Type 0} (cmp : N → N → Ordering) (total : IsTotalOrder cmp) where
  pub not_below_itself : (n : N) → cmp n n ≡ Less → ⊥
  not_below_itself n h = no (sym h ∙ tied_itself total n)
    where
      no : Less ≡ Equal → ⊥
      no e = cc

  pub not_both_ways : (a b : N) → cmp a b ≡ Less → cmp b a ≡ Less → ⊥
  not_both_ways a b e f = not_below_itself a (total.trans a b a e f)

  pub each_below : (n : N) (xs : List N) → AllByRecursion (λ y. cmp n y ≡ Less) xs → (x : N) → Contains xs x → cmp n x ≡ Less
  each_below n [] h x c = absurd (contains_none x c)
  each_below n (y ∷ ys) h x c = ⊎_elim (λ e. subst (λ z. cmp n z ≡ Less) e h.0) (λ d. each_below n ys h.1 x d) (contains_cases y x ys c)

  -- the names of a list in order are distinct
  pub ordered_distinct : (names : List N) → IsStrictlySortedBy cmp names → AreDistinct names
  unfolding IsStrictlySortedBy
  ordered_distinct [] s i j n at there = absurd (none-some n at)
  ordered_distinct (x ∷ xs) s zero zero n at there = refl
  ordered_distinct (x ∷ xs) s zero (suc j) n at there =
      absurd (not_below_itself x (each_below x xs s.0 x (subst (Contains xs) (same_Some n x (sym at)) (get_contains xs j n there))))
  ordered_distinct (x ∷ xs) s (suc i) zero n at there =
      absurd (not_below_itself x (each_below x xs s.0 x (subst (Contains xs) (same_Some n x (sym there)) (get_contains xs i n at))))
  ordered_distinct (x ∷ xs) s (suc i) (suc j) n at there = ap suc (ordered_distinct xs s.1 i j n at there)

  -- lists in order that have the same names are one
  pub ordered_one : (xs ys : List N) → IsStrictlySortedBy cmp xs → IsStrictlySortedBy cmp ys → ((n : N) → Contains xs n → Contains ys n) → ((n : N) → Contains ys n → Contains xs n) → xs ≡ ys
  unfolding IsStrictlySortedBy
  ordered_one [] [] sx sy to from = refl
  ordered_one [] (y ∷ ys) sx sy to from = absurd (contains_none y (from y (contains_here y ys)))
  ordered_one (x ∷ xs) [] sx sy to from = absurd (contains_none x (to x (contains_here x xs)))
  ordered_one (x ∷ xs) (y ∷ ys) sx sy to from =
      let same : x ≡ y = ⊎_elim
      (λ e. sym e)
      (λ d. ⊎_elim
      (λ f. f)
      (λ g. absurd (not_both_ways y x (each_below y ys sy.0 x d) (each_below x xs sx.0 y g)))
      (contains_cases x y xs (from y (contains_here y ys))))
      (contains_cases y x ys (to x (contains_here x xs))) in
      ap (λ n. n ∷ xs) same ∙ ap (λ ns. y ∷ ns) (ordered_one xs ys sx.1 sy.1
      (λ n c. ⊎_elim
      (λ e. absurd (not_below_itself x (subst (λ k. cmp x k ≡ Less) (sym (same ∙ e)) (each_below x xs sx.0 n c))))
      (λ d. d)
      (contains_cases y n ys (to n (contains_there x n xs c))))
      (λ n c. ⊎_elim
      (λ e. absurd (not_below_itself y (subst (λ k. cmp y k ≡ Less) (sym (sym same ∙ e)) (each_below y ys sy.0 n c))))
      (λ d. d)
      (contains_cases x n xs (from n (contains_there y n ys c)))))

  -- where each is below the next one, each is below all later ones
  all_below : (x y : N) (ys : List N) → cmp x y ≡ Less → AllByRecursion (λ z. cmp y z ≡ Less) ys → AllByRecursion (λ z. cmp x z ≡ Less) ys
  all_below x y [] first h = tt
  all_below x y (z ∷ zs) first h = (total.trans x y z first h.0, all_below x y zs first h.1)

  abbrev Ascends : List N → Type 0
  Ascends xs = AllAdjacentBelow (λ x y. true ≡ is_lt (cmp x y)) xs (length xs)

  later : (x : N) (xs : List N) → Ascends (x ∷ xs) → Ascends xs
  later x xs h k d lt =
      let next : suc k + 1 ≡ suc (k + 1) = omega arith in
      subst (λ j. true ≡ is_lt (cmp (get_or xs k d) (get_or (x ∷ xs) j d))) next (h (suc k) d (omega (arith, lt)))

  pub ordered_from : (xs : List N) → Ascends xs → IsStrictlySortedBy cmp xs
  unfolding IsStrictlySortedBy
  ordered_from [] h = tt
  ordered_from (x ∷ []) h = (tt, tt)
  ordered_from (x ∷ y ∷ ys) h =
      let rest = ordered_from (y ∷ ys) (later x (y ∷ ys) h) in
      let first : cmp x y ≡ Less = less_is (cmp x y) (sym (h 0 x (omega arith))) in
      ((first, all_below x y ys first rest.0), rest)

  -- ---- a search by halves

  index_small : (o : Ordering) → ordering_index o ≤ 2
  index_small Less = omega arith
  index_small Equal = omega arith
  index_small Greater = omega arith

  index_rises : (a b t : N) (o : Ordering) → cmp a b ≡ Less → cmp b t ≡ o → ordering_index (cmp a t) ≤ ordering_index o
  index_rises a b t Less less is = subst (λ x. ordering_index x ≤ ordering_index Less) (sym (total.trans a b t less is)) (omega arith)
  index_rises a b t Equal less is =
      let back : cmp b a ≡ Greater = total.antisymm b a ∙ ap ordering_reverse less in
      let same : cmp t a ≡ Greater = sym (total.congr b t a is) ∙ back in
      subst (λ x. ordering_index x ≤ ordering_index Equal) (sym (total.antisymm a t ∙ ap ordering_reverse same)) (omega arith)
  index_rises a b t Greater less is = index_small (cmp a t)

  pub rises : (xs : List N) (t : N) → IsStrictlySortedBy cmp xs → IsNonDecreasingBy (λ y. ordering_index (cmp y t)) xs
  rises xs t sorted i j d le lt = ⊎_elim
      (λ less. index_rises (get_or xs i d) (get_or xs j d) t (cmp (get_or xs j d) t) (Less-from_sorted cmp xs i j d sorted less lt) refl)
      (λ ge.
      let same : i ≡ j = omega (arith, le, ge) in
      subst (λ k. ordering_index (cmp (get_or xs i d) t) ≤ ordering_index (cmp (get_or xs k d) t)) same (omega arith))
      (cases_lt i j)

  pub not_found : (xs : List N) (t : N) (i : ℕ) → IsPartitionPoint (λ y. cmp y t ≡ Less) (λ y. cmp y t ≡ Greater) xs i → (id : ℕ) → slice_get xs id ≡ Some t → ⊥
  not_found xs t i point id there =
      let equal : cmp (get_or xs id t) t ≡ Equal = ap (λ y. cmp y t) (get_or_from_slice_get xs id t t there) ∙ tied_itself total t in
      ⊎_elim
      (λ less. unlike (sym (point.0 id t (omega arith) less) ∙ equal))
      (λ ge. other (sym (point.1 id t ge (slice_get_within xs id t there)) ∙ equal))
      (cases_lt id i)
    where
      unlike : Less ≡ Equal → ⊥
      unlike e = cc

      other : Greater ≡ Equal → ⊥
      other e = cc

-- A lookup has one answer.
use Rattle.std.proofs.Common.{◌≡◌, ℕ, zero, suc, ◌≤◌, List, [], ◌∷◌, length, refl, ap₂, sym, subst, inl, inr, ⊎_elim, arith}
use Rattle.std.specs.Prelude.{◌⊎◌, Contains, All}
use Rattle.std.specs.List.Sorted.{IsStrictlySortedBy}
use Rattle.std.specs.Cmp.Lexicographic.{slice_cmp}
use Rattle.std.specs.Ordering.{nat_cmp}
use Rattle.std.specs.declared.cmp.Ordering.{Ordering}
use Rattle.std.specs.declared.cmp.Ordering.TheVariants.{Less, Equal, Greater}
use Rattle.std.proofs.lemmas.List.Elements.{All-contains, All-head, All-tail}
use Rattle.std.proofs.lemmas.Map.Keys.{sorted_tail}
use Rattle.std.proofs.lemmas.Map.Lookups.{exact_bytes}
use Rattle.std.proofs.lemmas.Map.Views.{All-after_first}
use Rattle.meaning.proofs.Lists.{contains_here, contains_there, contains_cases, contains_none}
use Rattle.lookup.specs.Law.{LookupsAreOne}
use Rattle.lookup.proofs.Ids.{not_both, turned}

-- the id is one of these; or they are so many, and all before it
abbrev Covers : ℕ → List (List ℕ) → List ℕ → Type 0
Covers n ids id = Contains ids id ⊎ ((length ids ≡ n) × All (λ i. slice_cmp nat_cmp i id ≡ Less) ids)

after_first : (x : List ℕ) (xs : List (List ℕ)) → IsStrictlySortedBy (slice_cmp nat_cmp) (x ∷ xs) → (y : List ℕ) → Contains xs y → slice_cmp nat_cmp x y ≡ Less
after_first x xs sorted y c = All-contains (λ i. slice_cmp nat_cmp x i ≡ Less) xs y (All-after_first (slice_cmp nat_cmp) x xs sorted) c

-- what is covered does not come before the first
not_before : (n : ℕ) (y : List ℕ) (ys : List (List ℕ)) (x : List ℕ) → IsStrictlySortedBy (slice_cmp nat_cmp) (y ∷ ys) → Covers n (y ∷ ys) x → slice_cmp nat_cmp x y ≡ Less → ⊥
not_before n y ys x sorted (inl c) less = ⊎_elim
    (λ e. not_both x x (subst (λ (i : List ℕ). slice_cmp nat_cmp x i ≡ Less) e less) (subst (λ (i : List ℕ). slice_cmp nat_cmp x i ≡ Less) e less))
    (λ d. not_both x y less (after_first y ys sorted x d))
    (contains_cases y x ys c)
not_before n y ys x sorted (inr (long, all)) less = not_both x y less (All-head (λ i. slice_cmp nat_cmp i x ≡ Less) y ys all)

one_first : (x y : List ℕ) → (slice_cmp nat_cmp x y ≡ Less → ⊥) → (slice_cmp nat_cmp y x ≡ Less → ⊥) → x ≡ y
one_first x y not not_back = by (slice_cmp nat_cmp x y) refl
  where
    by : (o : Ordering) → slice_cmp nat_cmp x y ≡ o → x ≡ y
    by Less e = absurd (not e)
    by Equal e = exact_bytes x y e
    by Greater e = absurd (not_back (turned x y e))

-- of those after the first the same is so
covers_rest : (n : ℕ) (x y : List ℕ) (xs ys : List (List ℕ)) → x ≡ y → IsStrictlySortedBy (slice_cmp nat_cmp) (x ∷ xs) → (z : List ℕ) → Contains xs z → Covers (suc n) (y ∷ ys) z → Covers n ys z
covers_rest n x y xs ys same sorted z there (inl c) = ⊎_elim
    (λ e. absurd (itself (subst (λ (i : List ℕ). slice_cmp nat_cmp i z ≡ Less) (trans_of same e) (after_first x xs sorted z there))))
    inl
    (contains_cases y z ys c)
  where
    trans_of : x ≡ y → y ≡ z → x ≡ z
    trans_of a b = cc

    itself : slice_cmp nat_cmp z z ≡ Less → ⊥
    itself less = not_both z z less less
covers_rest n x y xs ys same sorted z there (inr (long, all)) = inr (omega (arith, long), All-tail (λ i. slice_cmp nat_cmp i z ≡ Less) y ys all)

none_covers : (n : ℕ) (y : List ℕ) (ys : List (List ℕ)) → length (y ∷ ys) ≤ n → Covers n [] y → ⊥
none_covers n y ys few (inl c) = contains_none y c
none_covers n y ys few (inr (long, all)) = absurd (omega (arith, few, long))

same_ids : (n : ℕ) (xs ys : List (List ℕ)) → IsStrictlySortedBy (slice_cmp nat_cmp) xs → IsStrictlySortedBy (slice_cmp nat_cmp) ys → length xs ≤ n → length ys ≤ n
    → ((x : List ℕ) → Contains xs x → Covers n ys x) → ((y : List ℕ) → Contains ys y → Covers n xs y) → xs ≡ ys
same_ids n [] [] sx sy fx fy to from = refl
same_ids n [] (y ∷ ys) sx sy fx fy to from = absurd (none_covers n y ys fy (from y (contains_here y ys)))
same_ids n (x ∷ xs) [] sx sy fx fy to from = absurd (none_covers n x xs fx (to x (contains_here x xs)))
same_ids zero (x ∷ xs) (y ∷ ys) sx sy fx fy to from = absurd (omega (arith, fx))
same_ids (suc n) (x ∷ xs) (y ∷ ys) sx sy fx fy to from =
    let same : x ≡ y = one_first x y (not_before (suc n) y ys x sy (to x (contains_here x xs))) (not_before (suc n) x xs y sx (from y (contains_here y ys))) in
    ap₂ (λ i is. i ∷ is) same (same_ids n xs ys (sorted_tail (slice_cmp nat_cmp) x xs sx) (sorted_tail (slice_cmp nat_cmp) y ys sy) (omega (arith, fx)) (omega (arith, fy))
    (λ z c. covers_rest n x y xs ys same sx z c (to z (contains_there x z xs c)))
    (λ z c. covers_rest n y x ys xs (sym same) sy z c (from z (contains_there y z ys c))))

pub lookups_one : LookupsAreOne
lookups_one S asked one other a b =
    same_ids asked.limit one other a.sorted b.sorted a.few b.few (λ x c. b.others x (a.only x c)) (λ y c. a.others y (b.only y c))

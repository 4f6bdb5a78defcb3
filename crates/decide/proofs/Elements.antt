-- What stands at an index of a list, after a push and after a store.
use Rattle.std.proofs.Common.{◌≡◌, ℕ, ◌<◌, List, [], ◌∷◌, ◌++◌, true, length, get_or, set, ap, ◌∙◌, sym, subst, inl, inr, ⊎_elim, arith, length-append}
use Rattle.std.specs.Prelude.{◌⊎◌, Contains, nat_eq}
use Rattle.std.specs.List.{list_any}
use Rattle.std.proofs.lemmas.Bool.{cases_eq, cases_lt, or_cases, eqb-true, false≢true}
use Rattle.std.proofs.lemmas.List.{length-set, get_or-set_same, get_or-set_other, get_or_append_left, get_or_default}
use Rattle.std.proofs.lemmas.List.Elements.{Contains-get_or}
use Rattle.std.proofs.Math.Seq.{get_or-append_seam}
use Rattle.meaning.proofs.Lists.{contains_here, contains_there, contains_cases, contains_none}

abbrev pub Holds : {A : Type 0} → List A → ℕ → A → Type 0
Holds xs i x = (i < length xs) × (get_or xs i x ≡ x)

pub holds_same : {A : Type 0} (xs : List A) (i : ℕ) (x y : A) → Holds xs i x → Holds xs i y → x ≡ y
holds_same xs i x y h k = sym h.1 ∙ get_or_default xs i x y h.0 ∙ k.1

pub holds_left : {A : Type 0} (xs ys : List A) (i : ℕ) (x : A) → Holds xs i x → Holds (xs ++ ys) i x
holds_left xs ys i x h =
    let lt = h.0 in
    (omega (arith, lt, length-append xs ys), get_or_append_left xs ys x i lt ∙ h.1)

pub holds_last : {A : Type 0} (xs : List A) (y : A) → Holds (xs ++ y ∷ []) (length xs) y
holds_last xs y = (omega (arith, length-append xs (y ∷ [])), get_or-append_seam xs y [] y)

pub holds_back : {A : Type 0} (xs : List A) (y : A) (i : ℕ) (x : A) → Holds (xs ++ y ∷ []) i x
    → Holds xs i x ⊎ ((i ≡ length xs) × (x ≡ y))
holds_back xs y i x h =
    let lt = h.0 in
    ⊎_elim
    (λ less. inl (less, sym (get_or_append_left xs (y ∷ []) x i less) ∙ h.1))
    (λ above.
    let here : i ≡ length xs = omega (arith, above, lt, length-append xs (y ∷ [])) in
    inr (here, sym h.1 ∙ ap (λ q. get_or (xs ++ y ∷ []) q x) here ∙ get_or-append_seam xs y [] x))
    (cases_lt i (length xs))

pub holds_set : {A : Type 0} (xs : List A) (i : ℕ) (y : A) (j : ℕ) (x : A) → (j ≡ i → ⊥) → Holds xs j x
    → Holds (set xs i y) j x
holds_set xs i y j x other h =
    let lt = h.0 in
    (omega (arith, lt, length-set xs i y), get_or-set_other xs i j y x other ∙ h.1)

pub holds_stored : {A : Type 0} (xs : List A) (i : ℕ) (y : A) → i < length xs → Holds (set xs i y) i y
holds_stored xs i y lt = (omega (arith, lt, length-set xs i y), get_or-set_same xs i y y lt)

pub holds_set_back : {A : Type 0} (xs : List A) (i : ℕ) (y : A) (j : ℕ) (x : A) → Holds (set xs i y) j x
    → ((j ≡ i) × (x ≡ y)) ⊎ ((j ≡ i → ⊥) × Holds xs j x)
holds_set_back xs i y j x h =
    let lt = h.0 in
    let within : j < length xs = omega (arith, lt, length-set xs i y) in
    ⊎_elim
    (λ same.
    let here : i < length xs = omega (arith, within, same) in
    inl (same, sym h.1 ∙ ap (λ r. get_or (set xs i y) r x) same ∙ get_or-set_same xs i y x here))
    (λ other. inr (other, (within, sym (get_or-set_other xs i j y x other) ∙ h.1)))
    (cases_eq j i)

pub holds_read : {A : Type 0} (xs : List A) (i : ℕ) (d : A) → i < length xs → Holds xs i (get_or xs i d)
holds_read xs i d lt = (lt, get_or_default xs i (get_or xs i d) d lt)

pub contains_at : {A : Type 0} (xs : List A) (i : ℕ) (x : A) → Holds xs i x → Contains xs x
contains_at xs i x h = subst (Contains xs) h.1 (Contains-get_or xs i x h.0)

-- a number is in a list or not
pub contains_or_not : (xs : List ℕ) (n : ℕ) → Contains xs n ⊎ (Contains xs n → ⊥)
contains_or_not [] n = inr (contains_none n)
contains_or_not (x ∷ xs) n =
    ⊎_elim
    (λ same. inl (subst (Contains (x ∷ xs)) same (contains_here x xs)))
    (λ other. ⊎_elim
    (λ c. inl (contains_there x n xs c))
    (λ no. inr (λ c. ⊎_elim other no (contains_cases x n xs c)))
    (contains_or_not xs n))
    (cases_eq x n)

pub contains_any : (xs : List ℕ) (n : ℕ) → list_any (λ y. nat_eq y n) xs ≡ true → Contains xs n
contains_any [] n is = absurd (false≢true is)
contains_any (x ∷ xs) n is =
    ⊎_elim
    (λ here. subst (Contains (x ∷ xs)) (eqb-true x n here) (contains_here x xs))
    (λ rest. contains_there x n xs (contains_any xs n rest))
    (or_cases (nat_eq x n) (list_any (λ y. nat_eq y n) xs) is)

pub holds_some : {A : Type 0} (xs : List A) (i : ℕ) → i < length xs → (x : A) × Holds xs i x
holds_some [] i lt = absurd (omega (arith, lt))
holds_some (x ∷ xs) i lt = (get_or (x ∷ xs) i x, holds_read (x ∷ xs) i x lt)

pub nothing_in : (xs : List ℕ) (i : ℕ) → length xs ≡ 0 → Contains xs i → ⊥
nothing_in xs i none (k, lt, e) = absurd (omega (arith, none, lt))

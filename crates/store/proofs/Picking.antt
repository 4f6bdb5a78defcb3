-- What tests find in a list.
use Rattle.std.proofs.Common.{◌≡◌, List, [], ◌∷◌, refl, sym, ap, subst, ◌∙◌, inl, inr}
use Rattle.std.specs.Prelude.{Bool, true, false, ◌||◌, ◌⊎◌, All}
use Rattle.std.specs.List.{list_any}
use Rattle.std.proofs.lemmas.Bool.{true≢false, or_cases, or_left, or_right}
use Rattle.std.proofs.lemmas.List.Elements.{All-nil, All-cons, All-head, All-tail}
use Rattle.store.specs.Written.{Pairwise}

-- the list has the element
abbrev pub In : {A : Type 0} → A → List A → Type 0
In x [] = ⊥
In x (y ∷ ys) = (x ≡ y) ⊎ In x ys

pub same_bool : (a b : Bool) → (a ≡ true → b ≡ true) → (b ≡ true → a ≡ true) → a ≡ b
same_bool true b f g = sym (f refl)
same_bool false true f g = g refl
same_bool false false f g = refl

pub found : {A : Type 0} (p : A → Bool) (xs : List A) → list_any p xs ≡ true → (x : A) × In x xs × (p x ≡ true)
found {A = A} p [] h = absurd (true≢false (sym h))
found {A = A} p (x ∷ xs) h = by_first (or_cases (p x) (list_any p xs) h) (found p xs)
  where
    by_first : (p x ≡ true) ⊎ (list_any p xs ≡ true) → (list_any p xs ≡ true → (y : A) × In y xs × (p y ≡ true)) → (y : A) × In y (x ∷ xs) × (p y ≡ true)
    by_first (inl here) rest = (x, inl refl, here)
    by_first (inr there) rest = let r = rest there in (r.0, inr r.1, r.2)

pub any_in : {A : Type 0} (p : A → Bool) (xs : List A) (x : A) → In x xs → p x ≡ true → list_any p xs ≡ true
any_in p [] x i h = absurd i
any_in p (y ∷ ys) x (inl e) h = or_left (p y) (list_any p ys) (ap p (sym e) ∙ h)
any_in p (y ∷ ys) x (inr i) h = or_right (p y) (list_any p ys) (any_in p ys x i h)

pub all_in : {A : Type 0} (P : A → Type 0) (xs : List A) → All P xs → (x : A) → In x xs → P x
all_in P [] h x i = absurd i
all_in P (y ∷ ys) h x (inl e) = subst P (sym e) (All-head P y ys h)
all_in P (y ∷ ys) h x (inr i) = all_in P ys (All-tail P y ys h) x i

pub all_from : {A : Type 0} (P : A → Type 0) (xs : List A) → ((x : A) → In x xs → P x) → All P xs
all_from P [] h = All-nil P
all_from P (x ∷ xs) h = All-cons P x xs (h x (inl refl)) (all_from P xs (λ y i. h y (inr i)))

pub any_same : {A : Type 0} (p q : A → Bool) (xs : List A) → ((x : A) → In x xs → p x ≡ q x) → list_any p xs ≡ list_any q xs
any_same p q [] h = refl
any_same p q (x ∷ xs) h = ap (λ b. b || list_any p xs) (h x (inl refl)) ∙ ap (λ b. q x || b) (any_same p q xs (λ y i. h y (inr i)))

pub any_no : {A : Type 0} (p : A → Bool) (xs : List A) → list_any p xs ≡ false → (x : A) → In x xs → p x ≡ false
any_no p xs h x i = by_value (p x) refl
  where
    by_value : (b : Bool) → p x ≡ b → p x ≡ false
    by_value true e = absurd (true≢false (sym (any_in p xs x i e) ∙ h))
    by_value false e = e

pub pair_in : {A : Type 0} (test : A → A → Bool) (both : (x y : A) → test x y ≡ test y x) (xs : List A) → Pairwise test xs → (x y : A) → In x xs → In y xs → (x ≡ y) ⊎ (test x y ≡ true)
pair_in test both [] h x y i j = absurd i
pair_in test both (z ∷ zs) h x y (inl e) (inl f) = inl (e ∙ sym f)
pair_in test both (z ∷ zs) h x y (inl e) (inr j) = inr (ap (λ v. test v y) e ∙ all_in (λ v. test z v ≡ true) zs h.0 y j)
pair_in test both (z ∷ zs) h x y (inr i) (inl f) = inr (both x y ∙ ap (λ v. test v x) f ∙ all_in (λ v. test z v ≡ true) zs h.0 x i)
pair_in test both (z ∷ zs) h x y (inr i) (inr j) = pair_in test both zs h.1 x y i j

pub any_none : {A : Type 0} (p : A → Bool) (xs : List A) → ((x : A) → In x xs → p x ≡ false) → list_any p xs ≡ false
any_none p [] h = refl
any_none p (x ∷ xs) h = ap (λ b. b || list_any p xs) (h x (inl refl)) ∙ any_none p xs (λ y i. h y (inr i))

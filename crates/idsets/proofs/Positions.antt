-- Where in a list what passes a test stands.
use Rattle.std.proofs.Common.{◌≡◌, ◌<◌, ◌+◌, ◌++◌, ◌||◌, ℕ, zero, suc, List, [], ◌∷◌, length, Bool, true, false, not, Some, None, refl, sym, ap, ◌∙◌, subst, arith, nat_lt, true≢false, cond, ◌≤◌, ◌⊎◌, inl, inr, get_or}
use Rattle.std.proofs.lemmas.Bool.Decides.{nat_tests}
use Rattle.std.specs.List.{slice_get, position, position_or_len, list_any, IsDistinct}
use Rattle.std.proofs.lemmas.Bool.{cases_lt}
use Rattle.std.proofs.lemmas.Map.Keys.{apart_from_distinct}
use Rattle.std.proofs.lemmas.Option.{slice_get_within, get_or_from_slice_get}
use Rattle.idsets.specs.Naming.{AreDistinct}

abbrev Finds : {X : Type 0} → (X → Bool) → List X → ℕ → Type 0
Finds {X} p xs i = (x : X) × (slice_get xs i ≡ Some x) × (p x ≡ true)

next : {X : Type 0} (p : X → Bool) (x : X) (xs : List X) (b : Bool) → p x ≡ b → (position_or_len p xs < length xs → Finds p xs (position_or_len p xs))
    → cond (not b) (1 + position_or_len p xs) 0 < length (x ∷ xs) → Finds p (x ∷ xs) (cond (not b) (1 + position_or_len p xs) 0)
next p x xs true e later h = (x, refl, e)
next p x xs false e later h = let r = later (omega (arith, h)) in let one : suc (position_or_len p xs) ≡ 1 + position_or_len p xs = omega arith in subst (Finds p (x ∷ xs)) one (r.0, r.1, r.2)

-- the first that passes
pub first : {X : Type 0} (p : X → Bool) (xs : List X) → position_or_len p xs < length xs → Finds p xs (position_or_len p xs)
first p [] h = absurd (omega (arith, h))
first p (x ∷ xs) h = next p x xs (p x) refl (first p xs) h

or_false : (a b : Bool) → (a || b) ≡ false → (a ≡ false) × (b ≡ false)
or_false true b h = absurd (true≢false h)
or_false false b h = (refl, h)

some_is : {X : Type 0} (x y : X) → Some x ≡ Some y → x ≡ y
some_is x y h = cc

-- where none passes, nothing that is there does
pub none : {X : Type 0} (p : X → Bool) (xs : List X) (i : ℕ) (x : X) → list_any p xs ≡ false → slice_get xs i ≡ Some x → p x ≡ false
none p [] i x h at = absurd (cc)
none p (y ∷ ys) zero x h at = subst (λ z. p z ≡ false) (some_is y x at) (or_false (p y) (list_any p ys) h).0
none p (y ∷ ys) (suc i) x h at = none p ys i x (or_false (p y) (list_any p ys) h).1 at

zero_below : (n : ℕ) → true ≡ nat_lt 0 (suc n)
zero_below n = grind (arith, nat_tests)

shift : (n m : ℕ) → nat_lt n m ≡ nat_lt (1 + n) (suc m)
shift n m = grind (arith, nat_tests)

among : {X : Type 0} (p : X → Bool) (x : X) (xs : List X) (b : Bool) → p x ≡ b → list_any p xs ≡ nat_lt (position_or_len p xs) (length xs)
    → (b || list_any p xs) ≡ nat_lt (cond (not b) (1 + position_or_len p xs) 0) (length (x ∷ xs))
among p x xs true e later = zero_below (length xs)
among p x xs false e later = later ∙ shift (position_or_len p xs) (length xs)

-- some passes where its place is one of the list
pub passes : {X : Type 0} (p : X → Bool) (xs : List X) → list_any p xs ≡ nat_lt (position_or_len p xs) (length xs)
passes p [] = refl
passes p (x ∷ xs) = among p x xs (p x) refl (passes p xs)

below : (n m : ℕ) → nat_lt n m ≡ true → n < m
below n m e = grind (arith, nat_tests)

at : {X : Type 0} (p : X → Bool) (xs : List X) (i : ℕ) (b : Bool) → nat_lt (position_or_len p xs) (length xs) ≡ b
    → Some i ≡ cond b (Some (position_or_len p xs)) None → Finds p xs i
at p xs i true e h = subst (Finds p xs) (sym (some_is i (position_or_len p xs) h)) (first p xs (below (position_or_len p xs) (length xs) e))
at p xs i false e h = absurd (cc)

pub at_position : {X : Type 0} (p : X → Bool) (xs : List X) (i : ℕ) → Some i ≡ position p xs → Finds p xs i
at_position p xs i h = at p xs i (nat_lt (position_or_len p xs) (length xs)) refl h

nowhere : {X : Type 0} (p : X → Bool) (xs : List X) (b : Bool) → nat_lt (position_or_len p xs) (length xs) ≡ b
    → None ≡ cond b (Some (position_or_len p xs)) None → list_any p xs ≡ false
nowhere p xs true e h = absurd (cc)
nowhere p xs false e h = passes p xs ∙ e

pub no_position : {X : Type 0} (p : X → Bool) (xs : List X) (i : ℕ) (x : X) → None ≡ position p xs → slice_get xs i ≡ Some x → p x ≡ true → ⊥
no_position p xs i x h here holds = true≢false (sym holds ∙ none p xs i x (nowhere p xs (nat_lt (position_or_len p xs) (length xs)) refl h) here)

pub kept : {X : Type 0} (p : X → Bool) (x : X) (xs new : List X) (i : ℕ) → new ≡ cond (list_any p xs) xs (xs ++ x ∷ []) → i ≡ position_or_len p xs
    → new ≡ cond (nat_lt i (length xs)) xs (xs ++ x ∷ [])
kept p x xs new i is here = is ∙ ap (λ b. cond b xs (xs ++ x ∷ [])) (passes p xs ∙ ap (λ n. nat_lt n (length xs)) (sym here))

module _ {X : Type 0} (e : X → X → Bool) (same : (x : X) → e x x ≡ true) (xs : List X) (distinct : IsDistinct e xs) where
  apart : (i j : ℕ) (x : X) → slice_get xs i ≡ Some x → slice_get xs j ≡ Some x → i < j → ⊥
  apart i j x h k before =
      let one : get_or xs i x ≡ x = get_or_from_slice_get xs i x x h in
      let other : get_or xs j x ≡ x = get_or_from_slice_get xs j x x k in
      let differ : e (get_or xs i x) (get_or xs j x) ≡ false = apart_from_distinct e xs i j x distinct before (slice_get_within xs j x k) in
      true≢false (sym (same x) ∙ ap (λ y. e y x) (sym one) ∙ ap (e (get_or xs i x)) (sym other) ∙ differ)

  -- what no other is equal to stands at one place
  pub one_place : AreDistinct xs
  one_place i j x h k = by (cases_lt i j) (cases_lt j i)
    where
      by : (i < j) ⊎ (j ≤ i) → (j < i) ⊎ (i ≤ j) → i ≡ j
      by (inl l) other = absurd (apart i j x h k l)
      by (inr r) (inl l) = absurd (apart j i x k h l)
      by (inr r) (inr s) = omega (arith, r, s)

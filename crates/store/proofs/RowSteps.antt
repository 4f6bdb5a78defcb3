-- A step of a loop that reads rows one by one.
use Rattle.std.proofs.Common.{◌≡◌, ℕ, ◌+◌, ◌<◌, ◌≤◌, ◌⊎◌, inl, inr, List, [], ◌∷◌, ◌++◌, length, get_or, take, drop, drop-cons, suc, refl, ap, sym, subst, ◌∙◌, append_assoc, arith}
use Rattle.std.proofs.lemmas.Bool.{cases_lt}
use Rattle.std.specs.Prelude.{map, All}
use Rattle.std.proofs.lemmas.List.{take_more, map-append, get_or_default}
use Rattle.std.proofs.lemmas.List.Elements.{All-push}

pub map_more : {A B C D : Type 0} (f : A → B) (g : B → C) (h : D → C) (xs ys : List A) (zs : List D) (i : ℕ) (x : A) (z : D)
    → ys ≡ xs ++ x ∷ [] → i < length zs → z ≡ get_or zs i z → g (f x) ≡ h z → map g (map f xs) ≡ map h (take i zs) → map g (map f ys) ≡ map h (take (i + 1) zs)
map_more f g h xs ys zs i x z pushed lt is one so_far =
    ap (λ l. map g (map f l)) pushed
    ∙ ap (map g) (map-append f xs (x ∷ []))
    ∙ map-append g (map f xs) (f x ∷ [])
    ∙ ap (λ l. l ++ g (f x) ∷ []) so_far
    ∙ ap (λ c. map h (take i zs) ++ c ∷ []) (one ∙ ap h is)
    ∙ sym (map-append h (take i zs) (get_or zs i z ∷ []))
    ∙ ap (map h) (sym (take_more zs i z lt))

-- what is read and what is left are all
pub map_on : {A B C D : Type 0} (f : A → B) (g : B → C) (h : D → C) (xs ys : List A) (x : A) (z : D) (zs : List D) (all : List C)
    → ys ≡ xs ++ x ∷ [] → g (f x) ≡ h z → map g (map f xs) ++ map h (z ∷ zs) ≡ all → map g (map f ys) ++ map h zs ≡ all
map_on f g h xs ys x z zs all pushed one so_far =
    ap (λ l. map g (map f l) ++ map h zs) pushed
    ∙ ap (λ l. map g l ++ map h zs) (map-append f xs (x ∷ []))
    ∙ ap (λ l. l ++ map h zs) (map-append g (map f xs) (f x ∷ []))
    ∙ append_assoc (map g (map f xs)) (g (f x) ∷ []) (map h zs)
    ∙ ap (λ c. map g (map f xs) ++ c ∷ map h zs) one
    ∙ so_far

pub all_more : {A : Type 0} (P : A → Type 0) (xs ys : List A) (x : A) → ys ≡ xs ++ x ∷ [] → All P xs → P x → All P ys
all_more {A} P xs ys x pushed all one = let Q : List A → Type 0 = λ l. All P l in subst Q (sym pushed) (All-push P xs x all one)

-- two elements are related whatever stands for those past the end
pub related_at : {A : Type 0} (R : A → A → Type 0) (xs : List A) (i j : ℕ) (x y d : A) → i < length xs → j < length xs → x ≡ get_or xs i x → y ≡ get_or xs j y → R x y → R (get_or xs i d) (get_or xs j d)
related_at {A} R xs i j x y d p q e f h =
    let P : A → Type 0 = λ a. R a (get_or xs j d) in
    let Q : A → Type 0 = λ b. R x b in
    subst P (e ∙ get_or_default xs i x d p) (subst Q (f ∙ get_or_default xs j y d q) h)

-- one more element
pub each_more : {A : Type 0} (P : A → Type 0) (xs : List A) (i : ℕ) (x : A) → i < length xs → x ≡ get_or xs i x → ((k : ℕ) (d : A) → k < i → P (get_or xs k d)) → P x → (k : ℕ) (d : A) → k < i + 1 → P (get_or xs k d)
each_more {A} P xs i x lt is below here k d less = by_place (cases_lt k i)
  where
    by_place : (k < i) ⊎ (i ≤ k) → P (get_or xs k d)
    by_place (inl l) = below k d l
    by_place (inr g) = let same : i ≡ k = omega (arith, g, less) in subst P (is ∙ get_or_default xs i x d lt ∙ ap (λ n. get_or xs n d) same) here

pub drop_next : {A : Type 0} (xs : List A) (i : ℕ) (x : A) → i < length xs → x ≡ get_or xs i x → drop i xs ≡ x ∷ drop (i + 1) xs
drop_next xs i x lt is = drop-cons xs i x lt ∙ ap (λ y. y ∷ drop (suc i) xs) (sym is) ∙ ap (λ n. x ∷ drop n xs) (let e : suc i ≡ i + 1 = omega arith in e)

pub drop_all : {A : Type 0} (xs : List A) → drop (length xs) xs ≡ []
drop_all [] = refl
drop_all (x ∷ xs) = drop_all xs

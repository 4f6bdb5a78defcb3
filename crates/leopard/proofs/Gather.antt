-- What a loop has gathered, and what is left.
use Rattle.std.proofs.Common.{◌≡◌, zero, suc, ℕ, ◌<◌, ◌+◌, List, [], ◌∷◌, drop, length, get_or, arith, sym, subst, refl, inl, inr, ⊎_elim, ◌∙◌, ap}
use Rattle.std.proofs.Math.Seq.{drop-cons, drop-length}
use Rattle.std.specs.Prelude.{◌↔◌, ◌⊎◌, Any, Contains}

pub any_none : {A : Type 0} (P : A → Type 0) → Any P [] → ⊥
any_none P (k, x, lt, e, p) = absurd (omega (arith, lt))

any_here : {A : Type 0} (P : A → Type 0) (x : A) (xs : List A) → P x → Any P (x ∷ xs)
any_here P x xs p = (0, x, omega arith, refl, p)

any_there : {A : Type 0} (P : A → Type 0) (x : A) (xs : List A) → Any P xs → Any P (x ∷ xs)
any_there P x xs (k, y, lt, e, p) = (suc k, y, omega arith, e, p)

any_cases : {A : Type 0} (P : A → Type 0) (x : A) (xs : List A) → Any P (x ∷ xs) → P x ⊎ Any P xs
any_cases P x xs (zero, y, lt, e, p) = inl (subst P (sym e) p)
any_cases P x xs (suc k, y, lt, e, p) = inr (k, y, omega arith, e, p)

pub any_splits : {A : Type 0} (P : A → Type 0) (x : A) (xs : List A) → Any P (x ∷ xs) ↔ (P x ⊎ Any P xs)
any_splits P x xs = (λ h. any_cases P x xs h, λ h. ⊎_elim (λ p. any_here P x xs p) (λ p. any_there P x xs p) h)

pub any_map : {A : Type 0} (P Q : A → Type 0) (xs : List A) → ((x : A) → P x → Q x) → Any P xs → Any Q xs
any_map P Q xs f (k, x, lt, e, p) = (k, x, lt, e, f x p)

pub any_contains : {A : Type 0} (P : A → Type 0) (xs : List A) (x : A) → Contains xs x → P x → Any P xs
any_contains P xs x (k, lt, e) p = (k, x, lt, e, p)

module _ {A : Type 0} (G : A → Type 0) where
  -- where what was gathered and what is left give the whole, so do they after one more item
  pub gather_more : (Whole Old New : Type 0) (s : List A) (x : A) (rest : List A) → s ≡ x ∷ rest → ((Old ⊎ Any G s) ↔ Whole) → (New ↔ (Old ⊎ G x)) → (New ⊎ Any G rest) ↔ Whole
  gather_more Whole Old New s x rest is whole step = (
    λ have. whole.0 (⊎_elim
        (λ n. ⊎_elim inl (λ g. inr (subst (Any G) (sym is) (any_here G x rest g))) (step.0 n))
        (λ a. inr (subst (Any G) (sym is) (any_there G x rest a)))
        have),
    λ all. ⊎_elim
        (λ o. inl (step.1 (inl o)))
        (λ a. ⊎_elim (λ g. inl (step.1 (inr g))) inr (any_cases G x rest (subst (Any G) is a)))
        (whole.1 all),
  )

  -- the same, where the item gives nothing
  pub gather_none : (Whole Old : Type 0) (s : List A) (x : A) (rest : List A) → s ≡ x ∷ rest → ((Old ⊎ Any G s) ↔ Whole) → (G x → ⊥) → (Old ⊎ Any G rest) ↔ Whole
  gather_none Whole Old s x rest is whole nothing =
      gather_more Whole Old Old s x rest is whole (inl, λ h. ⊎_elim (λ o. o) (λ g. absurd (nothing g)) h)

  pub gather_all : (Whole Have : Type 0) (s : List A) → s ≡ [] → ((Have ⊎ Any G s) ↔ Whole) → Have ↔ Whole
  gather_all Whole Have s is whole = (
    λ h. whole.0 (inl h),
    λ w. ⊎_elim (λ h. h) (λ n. absurd (any_none G (subst (Any G) is n))) (whole.1 w),
  )

  pub gather_start : (Old : Type 0) (s all : List A) → s ≡ all → (Old ⊎ Any G s) ↔ (Old ⊎ Any G all)
  gather_start Old s all is = (
    λ h. ⊎_elim inl (λ a. inr (subst (Any G) is a)) h,
    λ h. ⊎_elim inl (λ a. inr (subst (Any G) (sym is) a)) h,
  )

-- what is left from a place on
pub left_at : {A : Type 0} (xs : List A) (k : ℕ) (x : A) → k < length xs → x ≡ get_or xs k x → drop k xs ≡ x ∷ drop (k + 1) xs
left_at xs k x lt is =
    let next : suc k ≡ k + 1 = omega arith in
    drop-cons xs k x lt ∙ ap (λ y. y ∷ drop (suc k) xs) (sym is) ∙ ap (λ n. x ∷ drop n xs) next

pub left_none : {A : Type 0} (xs : List A) (k : ℕ) → length xs ≡ k → drop k xs ≡ []
left_none xs k is = subst (λ n. drop n xs ≡ []) is (drop-length xs)

-- the item at a place is among them
pub item_there : {A : Type 0} (xs : List A) (k : ℕ) (x : A) → k < length xs → x ≡ get_or xs k x → Contains xs x
item_there xs k x lt is = (k, lt, sym is)

-- What a loop has gathered, and what is left of it.
use Rattle.std.proofs.Common.{◌≡◌, List, [], ◌∷◌, sym, subst, inl, inr, ⊎_elim}
use Rattle.std.specs.Prelude.{◌↔◌, ◌⊎◌, Contains}
use Rattle.meaning.proofs.Lists.{contains_here, contains_there, contains_cases}

-- where what was gathered or is left gives the whole, so it does after one more item
pub gather : {A : Type 0} (P : List A → Type 0) (Whole Old New G : Type 0) (s : List A) (x : A) (rest : List A) → s ≡ x ∷ rest → (P (x ∷ rest) ↔ (G ⊎ P rest))
    → ((Old ⊎ P s) ↔ Whole) → (New ↔ (Old ⊎ G)) → (New ⊎ P rest) ↔ Whole
gather P Whole Old New G s x rest is splits whole step = (
  λ have. whole.0 (⊎_elim
      (λ n. ⊎_elim inl (λ g. inr (subst P (sym is) (splits.1 (inl g)))) (step.0 n))
      (λ p. inr (subst P (sym is) (splits.1 (inr p))))
      have),
  λ w. ⊎_elim
      (λ o. inl (step.1 (inl o)))
      (λ p. ⊎_elim (λ g. inl (step.1 (inr g))) inr (splits.0 (subst P is p)))
      (whole.1 w),
)

-- where nothing is left, what was gathered is the whole
pub gathered : {A : Type 0} (P : List A → Type 0) (Whole Have : Type 0) (s : List A) → s ≡ [] → (P [] → ⊥) → ((Have ⊎ P s) ↔ Whole) → Have ↔ Whole
gathered P Whole Have s is nothing whole = (
  λ h. whole.0 (inl h),
  λ w. ⊎_elim (λ h. h) (λ p. absurd (nothing (subst P is p))) (whole.1 w),
)

-- the same of what holds of each item
pub narrow : {A : Type 0} (P : List A → Type 0) (Whole Old New G : Type 0) (s : List A) (x : A) (rest : List A) → s ≡ x ∷ rest → (P (x ∷ rest) ↔ (G × P rest))
    → ((Old × P s) ↔ Whole) → (New ↔ (Old × G)) → (New × P rest) ↔ Whole
narrow P Whole Old New G s x rest is splits whole step = (
  λ (n, p). let (o, g) = step.0 n in whole.0 (o, subst P (sym is) (splits.1 (g, p))),
  λ w. let (o, p) = whole.1 w in let (g, q) = splits.0 (subst P is p) in (step.1 (o, g), q),
)

pub narrowed : {A : Type 0} (P : List A → Type 0) (Whole Have : Type 0) (s : List A) → s ≡ [] → P [] → ((Have × P s) ↔ Whole) → Have ↔ Whole
narrowed P Whole Have s is all whole = (
  λ h. whole.0 (h, subst P (sym is) all),
  λ w. (whole.1 w).0,
)

pub contains_splits : {A : Type 0} (x y : A) (xs : List A) → Contains (x ∷ xs) y ↔ ((y ≡ x) ⊎ Contains xs y)
contains_splits x y xs = (
  λ c. ⊎_elim (λ e. inl (sym e)) inr (contains_cases x y xs c),
  λ h. ⊎_elim (λ e. subst (Contains (x ∷ xs)) (sym e) (contains_here x xs)) (λ c. contains_there x y xs c) h,
)

-- what is added, in other words
pub added_as : (New Old M G : Type 0) → (New ↔ (Old ⊎ M)) → (M ↔ G) → New ↔ (Old ⊎ G)
added_as New Old M G step same = (
  λ n. ⊎_elim inl (λ m. inr (same.0 m)) (step.0 n),
  λ h. step.1 (⊎_elim inl (λ g. inr (same.1 g)) h),
)

-- what is kept, in other words
pub kept_as : (New Old M G : Type 0) → (New ↔ (Old × M)) → (M ↔ G) → New ↔ (Old × G)
kept_as New Old M G step same = (
  λ n. let (o, m) = step.0 n in (o, same.0 m),
  λ (o, g). step.1 (o, same.1 g),
)

-- what gives nothing adds nothing
pub none_added : (Old G : Type 0) → (G → ⊥) → Old ↔ (Old ⊎ G)
none_added Old G nothing = (inl, λ h. ⊎_elim (λ o. o) (λ g. absurd (nothing g)) h)

-- What a loop over a set has gathered.
use Rattle.std.proofs.Common.{◌≡◌, zero, suc, List, [], ◌∷◌, ◌++◌, arith, sym, subst, refl, inl, inr, ⊎_elim}
use Rattle.std.specs.Prelude.{◌↔◌, ◌⊎◌, Any, Contains}
use Rattle.std.proofs.lemmas.List.Elements.{Contains-append_left, Contains-push, Contains-push_cases}

any_none : {A : Type 0} (P : A → Type 0) → Any P [] → ⊥
any_none P (k, x, lt, e, p) = absurd (omega (arith, lt))

any_here : {A : Type 0} (P : A → Type 0) (x : A) (xs : List A) → P x → Any P (x ∷ xs)
any_here P x xs p = (0, x, omega arith, refl, p)

any_there : {A : Type 0} (P : A → Type 0) (x : A) (xs : List A) → Any P xs → Any P (x ∷ xs)
any_there P x xs (k, y, lt, e, p) = (suc k, y, omega arith, e, p)

any_cases : {A : Type 0} (P : A → Type 0) (x : A) (xs : List A) → Any P (x ∷ xs) → P x ⊎ Any P xs
any_cases P x xs (zero, y, lt, e, p) = inl (subst P (sym e) p)
any_cases P x xs (suc k, y, lt, e, p) = inr (k, y, omega arith, e, p)

module _ {A B : Type 0} (Gives : B → A → Type 0) (All : List A) where
  -- where what was gathered and what is left give all, so do they after one more item
  pub gather_more : (Old New : B → Type 0) (s : List A) (x : A) (rest : List A) → s ≡ x ∷ rest → ((b : B) → (Old b ⊎ Any (Gives b) s) ↔ Any (Gives b) All) → ((b : B) → New b ↔ (Old b ⊎ Gives b x)) → (b : B) → (New b ⊎ Any (Gives b) rest) ↔ Any (Gives b) All
  gather_more Old New s x rest is before step b =
      let whole = before b in (
        λ have. whole.0 (⊎_elim
            (λ n. ⊎_elim inl (λ g. inr (subst (Any (Gives b)) (sym is) (any_here (Gives b) x rest g))) ((step b).0 n))
            (λ a. inr (subst (Any (Gives b)) (sym is) (any_there (Gives b) x rest a)))
            have),
        λ all. ⊎_elim
            (λ o. inl ((step b).1 (inl o)))
            (λ a. ⊎_elim (λ g. inl ((step b).1 (inr g))) inr (any_cases (Gives b) x rest (subst (Any (Gives b)) is a)))
            (whole.1 all),
      )

  pub gather_all : (Have : B → Type 0) (s : List A) → s ≡ [] → ((b : B) → (Have b ⊎ Any (Gives b) s) ↔ Any (Gives b) All) → (b : B) → Have b ↔ Any (Gives b) All
  gather_all Have s is before b = (
    λ h. (before b).0 (inl h),
    λ a. ⊎_elim (λ h. h) (λ n. absurd (any_none (Gives b) (subst (Any (Gives b)) is n))) ((before b).1 a),
  )

  pub gather_none : (Have : B → Type 0) → ((b : B) → Have b → ⊥) → (b : B) → (Have b ⊎ Any (Gives b) All) ↔ Any (Gives b) All
  gather_none Have none b = (λ h. ⊎_elim (λ x. absurd (none b x)) (λ a. a) h, λ a. inr a)

-- a list with one more item
pub pushed : {B : Type 0} (old : List B) (x b : B) → Contains (old ++ x ∷ []) b ↔ (Contains old b ⊎ (x ≡ b))
pushed old x b = (
  λ c. Contains-push_cases old x b c,
  λ h. ⊎_elim (Contains-append_left old (x ∷ []) b) (λ e. subst (Contains (old ++ x ∷ [])) e (Contains-push old x)) h,
)

-- a list that has the item
pub had : {B : Type 0} (old : List B) (x b : B) → Contains old x → Contains old b ↔ (Contains old b ⊎ (x ≡ b))
had old x b c = (λ h. inl h, λ h. ⊎_elim (λ d. d) (λ e. subst (Contains old) e c) h)

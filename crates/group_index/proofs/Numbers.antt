-- Groups by their numbers, one by one.
use Rattle.std.proofs.Common.{ℕ, ◌≡◌, nat_eq, List, [], ◌∷◌, ◌++◌, refl, sym, ◌∙◌, ap, subst, ⊎_elim, inl, inr}
use Rattle.std.specs.Prelude.{◌↔◌, ◌⊎◌, Some, None, Contains, Result, Ok, Err, OnOk}
use Rattle.std.specs.List.{slice_get}
use Rattle.std.proofs.lemmas.Bool.{or_cases, or_left, or_right, false≢true, eqb-true, eq-eqb}
use Rattle.std.proofs.lemmas.Option.{none-some, same_Some}
use Rattle.std.proofs.lemmas.List.Elements.{Contains-append_left, Contains-push, Contains-push_cases}
use Rattle.names.specs.declared.node.Node.{Node}
use Rattle.meaning.proofs.Lists.{contains_none}
use Rattle.idsets.specs.Sets.{has}
use Rattle.facts.specs.inside.Tables.{has_push}
use Rattle.leopard.specs.Finding.{IsNamedBy, Finds, AreUnnamed, AreFound}
use Rattle.leopard.specs.inside.Asking.{Gains}

pub found_none : (names : List Node) (ids : List ℕ) (others : List Node) (P : Node → Type 0) → ids ≡ [] → others ≡ [] → ((n : Node) → P n → ⊥) → AreFound names P ids others
found_none names ids others P no_ids none nobody = record {
  unnamed = λ n id c at. contains_none n (subst (λ ns. Contains ns n) none c);
  all = λ n. (
    λ f. ⊎_elim
        (λ (id, at, h). absurd (false≢true (ap (λ xs. has xs id) (sym no_ids) ∙ h)))
        (λ c. absurd (contains_none n (subst (λ ns. Contains ns n) none c)))
        f,
    λ p. absurd (nobody n p),
  );
}

-- a group more, which has a number
pub put_id : (names : List Node) (ids ids' : List ℕ) (others : List Node) (group : Node) (id : ℕ) → slice_get names id ≡ Some group → ids' ≡ ids ++ id ∷ []
    → (n : Node) → Finds names ids' others n ↔ (Finds names ids others n ⊎ (n ≡ group))
put_id names ids ids' others group id at is n = (
  λ f. ⊎_elim
      (λ (i, at_i, h). ⊎_elim
      (λ q. inl (inl (i, at_i, q)))
      (λ q. inr (same_Some n group (sym at_i ∙ ap (slice_get names) (eqb-true i id q) ∙ at)))
      (or_cases (has ids i) (nat_eq i id) (sym (has_push ids id i) ∙ ap (λ xs. has xs i) (sym is) ∙ h)))
      (λ c. inl (inr c))
      f,
  λ f. ⊎_elim
      (λ g. ⊎_elim
      (λ (i, at_i, h). inl (i, at_i, ap (λ xs. has xs i) is ∙ has_push ids id i ∙ or_left (has ids i) (nat_eq i id) h))
      (λ c. inr c)
      g)
      (λ e. inl (id, at ∙ ap (λ x. Some x) (sym e), ap (λ xs. has xs id) is ∙ has_push ids id id ∙ or_right (has ids id) (nat_eq id id) (eq-eqb id id refl)))
      f,
)

-- and one that has none
module _ (names others others' : List Node) (group : Node) (gains : Gains (λ n. n ≡ group) others others') where
  pub put_other : (ids : List ℕ) (n : Node) → Finds names ids others' n ↔ (Finds names ids others n ⊎ (n ≡ group))
  put_other ids n = (
    λ f. ⊎_elim (λ h. inl (inl h)) (λ c. ⊎_elim (λ d. inl (inr d)) (λ e. inr e) ((gains n).0 c)) f,
    λ f. ⊎_elim
        (λ g. ⊎_elim (λ h. inl h) (λ c. inr ((gains n).1 (inl c))) g)
        (λ e. inr ((gains n).1 (inr e)))
        f,
  )

  pub other_unnamed : ((id : ℕ) → slice_get names id ≡ Some group → ⊥) → AreUnnamed names others → AreUnnamed names others'
  other_unnamed missing first n id c at = ⊎_elim (λ d. first n id d at) (λ e. missing id (at ∙ ap (λ x. Some x) e)) ((gains n).0 c)

-- one group more among some
pub found_push : (names : List Node) (ids ids' : List ℕ) (others others' : List Node) (group : Node)
    → ((n : Node) → Finds names ids' others' n ↔ (Finds names ids others n ⊎ (n ≡ group))) → (AreUnnamed names others → AreUnnamed names others')
    → (before : List Node) → AreFound names (Contains before) ids others → AreFound names (Contains (before ++ group ∷ [])) ids' others'
found_push names ids ids' others others' group more unnamed before are = record {
  unnamed = unnamed are.unnamed;
  all = λ n. (
    λ f. ⊎_elim
        (λ g. Contains-append_left before (group ∷ []) n ((are.all n).0 g))
        (λ e. subst (λ x. Contains (before ++ group ∷ []) x) (sym e) (Contains-push before group))
        ((more n).0 f),
    λ c. (more n).1 (⊎_elim (λ d. inl ((are.all n).1 d)) (λ e. inr (sym e)) (Contains-push_cases before group n c)),
  );
}

-- one number more among some
pub named_push : (names table : List Node) (ids ids' : List ℕ) (others others' : List Node) (group : Node) (number : ℕ) → slice_get table number ≡ Some group
    → ((n : Node) → Finds names ids' others' n ↔ (Finds names ids others n ⊎ (n ≡ group))) → (AreUnnamed names others → AreUnnamed names others')
    → (before : List ℕ) → AreFound names (IsNamedBy table before) ids others → AreFound names (IsNamedBy table (before ++ number ∷ [])) ids' others'
named_push names table ids ids' others others' group number at more unnamed before are = record {
  unnamed = unnamed are.unnamed;
  all = λ n. (
    λ f. ⊎_elim
        (λ g. let (i, at_i, h) = (are.all n).0 g in (i, at_i, has_push before number i ∙ or_left (has before i) (nat_eq i number) h))
        (λ e. (number, at ∙ ap (λ x. Some x) (sym e), has_push before number number ∙ or_right (has before number) (nat_eq number number) (eq-eqb number number refl)))
        ((more n).0 f),
    λ (i, at_i, h). (more n).1 (⊎_elim
        (λ q. inl ((are.all n).1 (i, at_i, q)))
        (λ q. inr (same_Some n group (sym at_i ∙ ap (slice_get table) (eqb-true i number q) ∙ at)))
        (or_cases (has before i) (nat_eq i number) (sym (has_push before number i) ∙ h))),
  );
}

pub named_passed : (names table : List Node) (ids : List ℕ) (others : List Node) (number : ℕ) → None ≡ slice_get table number
    → (before : List ℕ) → AreFound names (IsNamedBy table before) ids others → AreFound names (IsNamedBy table (before ++ number ∷ [])) ids others
named_passed names table ids others number off before are = record {
  unnamed = are.unnamed;
  all = λ n. (
    λ f. let (i, at_i, h) = (are.all n).0 f in (i, at_i, has_push before number i ∙ or_left (has before i) (nat_eq i number) h),
    λ (i, at_i, h). ⊎_elim
        (λ q. (are.all n).1 (i, at_i, q))
        (λ q. absurd (none-some n (off ∙ ap (slice_get table) (sym (eqb-true i number q)) ∙ at_i)))
        (or_cases (has before i) (nat_eq i number) (sym (has_push before number i) ∙ h)),
  );
}

-- the same ids in order
pub found_sorted : (names : List Node) (P : Node → Type 0) (ids ids' : List ℕ) (others : List Node) → ((id : ℕ) → has ids' id ≡ has ids id) → AreFound names P ids others → AreFound names P ids' others
found_sorted names P ids ids' others same are = record {
  unnamed = are.unnamed;
  all = λ n. (
    λ f. (are.all n).0 (⊎_elim (λ (id, at, h). inl (id, at, sym (same id) ∙ h)) (λ c. inr c) f),
    λ p. ⊎_elim (λ (id, at, h). inl (id, at, same id ∙ h)) (λ c. inr c) ((are.all n).1 p),
  );
}

-- groups that all have a number
pub named_found : (names : List Node) (P : Node → Type 0) (ids ids' : List ℕ) (others : List Node) → ids' ≡ ids → others ≡ [] → ((n : Node) → IsNamedBy names ids n ↔ P n) → AreFound names P ids' others
named_found names P ids ids' others same none named = record {
  unnamed = λ n id c at. contains_none n (subst (λ ns. Contains ns n) none c);
  all = λ n. (
    λ f. ⊎_elim
        (λ (id, at, h). (named n).0 (id, at, ap (λ xs. has xs id) (sym same) ∙ h))
        (λ c. absurd (contains_none n (subst (λ ns. Contains ns n) none c)))
        f,
    λ p. let (id, at, h) = (named n).1 p in inl (id, at, ap (λ xs. has xs id) same ∙ h),
  );
}

pub on_ok_both : {T E P Q R : Type 0} (r : Result T E) → (P → Q → R) → OnOk r P → OnOk r Q → OnOk r R
on_ok_both (Ok x) f p q = f p q
on_ok_both (Err e) f p q = tt

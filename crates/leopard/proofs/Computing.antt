-- Computed usersets, as they are gathered.
use Rattle.std.proofs.Common.{◌≡◌, ℕ, List, [], ◌∷◌, ◌++◌, refl, sym, subst, ap, ◌∙◌, inl, inr, ⊎_elim}
use Rattle.std.specs.Prelude.{◌↔◌, ◌⊎◌, Contains}
use Rattle.std.proofs.lemmas.List.Elements.{Contains-append_left, Contains-push, Contains-push_cases}
use Rattle.names.specs.declared.object.Object.{Object}
use Rattle.names.specs.declared.node.Node.{Node}
use Rattle.meaning.specs.Form.{Form, Forms, Computed, Exclusion, none, more}
use Rattle.leopard.specs.inside.Asking.{Gains, IsComputed, IsSomeComputed}

pub gains_none : (P : Node → Type 0) (nodes : List Node) → ((n : Node) → P n → ⊥) → Gains P nodes nodes
gains_none P nodes nothing n = (inl, λ h. ⊎_elim (λ c. c) (λ p. absurd (nothing n p)) h)

pub gains_one : (object : Object) (r : List ℕ) (old new : List Node) → new ≡ old ++ record { object = object; relation = r } ∷ [] → Gains (IsComputed object (Computed r)) old new
gains_one object r old new is n =
    let one : Node = record { object = object; relation = r } in (
      λ c. ⊎_elim inl (λ e. inr (r, refl, sym e)) (Contains-push_cases old one n (subst (λ (ns : List Node). Contains ns n) is c)),
      λ h. subst (λ (ns : List Node). Contains ns n) (sym is) (⊎_elim
          (λ c. Contains-append_left old (one ∷ []) n c)
          (λ (c, same, e). subst (Contains (old ++ one ∷ [])) (ap (λ k. record { object = object; relation = k }) same ∙ sym e) (Contains-push old one))
          h),
    )

pub gains_two : (object : Object) (a b : Form) (old mid new : List Node) → Gains (IsComputed object a) old mid → Gains (IsComputed object b) mid new → Gains (IsComputed object (Exclusion a b)) old new
gains_two object a b old mid new first second n = (
  λ c. ⊎_elim
      (λ m. ⊎_elim inl (λ (r, computes, e). inr (r, inl computes, e)) ((first n).0 m))
      (λ (r, computes, e). inr (r, inr computes, e))
      ((second n).0 c),
  λ h. (second n).1 (⊎_elim
      (λ o. inl ((first n).1 (inl o)))
      (λ (r, computes, e). ⊎_elim (λ k. inl ((first n).1 (inr (r, k, e)))) (λ k. inr (r, k, e)) computes)
      h),
)

pub computed_splits : (object : Object) (w : Form) (ws : Forms) (n : Node) → IsSomeComputed object (more w ws) n ↔ (IsComputed object w n ⊎ IsSomeComputed object ws n)
computed_splits object w ws n = (
  λ (r, computes, e). ⊎_elim (λ k. inl (r, k, e)) (λ k. inr (r, k, e)) computes,
  λ h. ⊎_elim (λ (r, k, e). (r, inl k, e)) (λ (r, k, e). (r, inr k, e)) h,
)

pub computed_none : (object : Object) (n : Node) → IsSomeComputed object none n → ⊥
computed_none object n (r, computes, e) = computes

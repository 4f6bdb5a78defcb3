use Rattle.std.proofs.Common.{List, sym, subst, ⊎_elim, inl, inr}
use Rattle.std.specs.Prelude.{Contains}
use Rattle.names.specs.declared.node.Node.{Node}
use Rattle.leopard.proofs.building.joined.Goals as goal

pub returns : goal.returns
returns c n = (
  λ h. ⊎_elim
      (λ old. inl (subst (λ (l : List Node). Contains l n) c.into_vec-nodes.ensures old))
      (λ there. inr (subst (λ (l : List Node). Contains l n) c.as_slice.ensures.names there))
      ((c.in_ok-push_all.ensures n).0 ((c.of.ensures.names n).0 h)),
  λ h. (c.of.ensures.names n).1 ((c.in_ok-push_all.ensures n).1 (⊎_elim
      (λ old. inl (subst (λ (l : List Node). Contains l n) (sym c.into_vec-nodes.ensures) old))
      (λ there. inr (subst (λ (l : List Node). Contains l n) (sym c.as_slice.ensures.names) there))
      h)),
)

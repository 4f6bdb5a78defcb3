use Rattle.std.proofs.Common.{List, sym, subst, ⊎_elim, inr}
use Rattle.std.specs.Prelude.{Contains}
use Rattle.names.specs.declared.node.Node.{Node}
use Rattle.leopard.proofs.Making.{nothing_yet}
use Rattle.leopard.proofs.building.copied.Goals as goal

pub returns : goal.returns
returns c n = (
  λ h. ⊎_elim
      (λ none. absurd (nothing_yet c.new-nodes.result.items n c.new-nodes.ensures.items none))
      (λ there. subst (λ (l : List Node). Contains l n) c.as_slice.ensures.names there)
      ((c.in_ok-push_all.ensures n).0 ((c.of.ensures.names n).0 h)),
  λ h. (c.of.ensures.names n).1 ((c.in_ok-push_all.ensures n).1 (inr (subst (λ (l : List Node). Contains l n) (sym c.as_slice.ensures.names) h))),
)

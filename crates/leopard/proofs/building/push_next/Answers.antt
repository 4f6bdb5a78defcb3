use Rattle.std.proofs.Common.{◌≡◌, List, [], ◌∷◌, ◌++◌, sym, subst}
use Rattle.std.specs.Prelude.{◌↔◌, ◌⊎◌, Contains}
use Rattle.names.specs.declared.node.Node.{Node}
use Rattle.leopard.proofs.Making.{pushed, there_already}
use Rattle.leopard.proofs.building.push_next.Goals as goal

pub returns-then-is_last : goal.returns-then-is_last
returns-then-is_last c = λ n. there_already c.args.nodes.now.items c.args.node.now n
    (subst (λ (l : List Node). Contains l c.args.node.now) c.deref.ensures.value (c.is_last.ensures c.if-is_last.true))

pub returns : goal.returns
returns c = λ n. subst (λ (l : List Node). Contains l n ↔ (Contains c.args.nodes.now.items n ⊎ (n ≡ c.args.node.now))) (sym c.in_ok-push.ensures.items)
    (subst (λ (m : Node). Contains (c.args.nodes.now.items ++ c.again.result ∷ []) n ↔ (Contains c.args.nodes.now.items n ⊎ (n ≡ m))) c.again.ensures (pushed c.args.nodes.now.items c.again.result n))

use Rattle.std.proofs.Common.{◌≡◌, List, [], ◌∷◌, ◌++◌, ◌+◌, drop, sym, subst, arith}
use Rattle.std.specs.Prelude.{◌↔◌, ◌⊎◌, Contains}
use Rattle.names.specs.declared.node.Node.{Node}
use Rattle.meaning.proofs.Lists.{contains_none}
use Rattle.leopard.proofs.Gather.{left_at, left_none}
use Rattle.leopard.proofs.Leftover.{gather, gathered, contains_splits}
use Rattle.leopard.proofs.Making.{pushed}
use Rattle.leopard.proofs.building.push_all.Goals as goal

pub loop-node-preserved : goal.loop-node-preserved
loop-node-preserved c = λ n.
    let item : Node = c.node-item.result in
    let next = left_at c.args.more.now c.loop-node.node-index item c.loop-node-test.true c.node-item.is in
    gather (λ (l : List Node). Contains l n) _ _ _ _ (drop c.loop-node.node-index c.args.more.now) item (drop (c.loop-node.node-index + 1) c.args.more.now) next
    (contains_splits item n (drop (c.loop-node.node-index + 1) c.args.more.now)) (c.loop-node.invariant n)
    (subst (λ (l : List Node). Contains l n ↔ (Contains c.loop-node.nodes.items n ⊎ (n ≡ item))) (sym c.in_ok-push.ensures.items)
    (subst (λ (m : Node). Contains (c.loop-node.nodes.items ++ m ∷ []) n ↔ (Contains c.loop-node.nodes.items n ⊎ (n ≡ item))) (sym c.again.ensures) (pushed c.loop-node.nodes.items item n)))

pub returns : goal.returns
returns c = λ n. gathered (λ (l : List Node). Contains l n) _ _ (drop c.loop-node.node-index c.args.more.now)
    (left_none c.args.more.now c.loop-node.node-index (omega (arith, c.loop-node-test.false, c.loop-node.auto.node-index-end))) (contains_none n) (c.loop-node.invariant n)

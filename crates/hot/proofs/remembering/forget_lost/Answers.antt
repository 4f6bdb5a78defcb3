use Rattle.std.proofs.Common.{⊎_elim}
use Rattle.hot.proofs.Remembered.{before_or_at}
use Rattle.hot.proofs.remembering.forget_lost.Goals as goal

pub loop-node-preserved : goal.loop-node-preserved
loop-node-preserved c = λ n t at.
    let one = c.forget_if_lost.ensures n t at in
    let was = c.loop-node.invariant n t one.0 in
    (was.0, λ h. ⊎_elim was.1 one.1 (before_or_at c.args.nodes.now c.loop-node.node-index n c.loop-node-test.true h))

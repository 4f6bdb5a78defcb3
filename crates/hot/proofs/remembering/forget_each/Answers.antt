use Rattle.hot.proofs.Remembered.{forgot_one, not_before}
use Rattle.hot.proofs.remembering.forget_each.Goals as goal

pub loop-node-preserved : goal.loop-node-preserved
loop-node-preserved c = λ n t at.
    let one = forgot_one c.loop-node.told c.remove.new.self _ c.remove.ensures.updates.0 n t at in
    let was = c.loop-node.invariant n t one.0 in
    (was.0, not_before c.args.nodes.now c.loop-node.node-index n c.loop-node-test.true was.1 one.1)

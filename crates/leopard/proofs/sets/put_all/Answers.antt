use Rattle.std.specs.Prelude.{Contains}
use Rattle.meaning.proofs.Lists.{contains_none}
use Rattle.leopard.proofs.Leftover.{gather, gathered, contains_splits}
use Rattle.leopard.proofs.sets.put_all.Goals as goal

pub loop-node-preserved : goal.loop-node-preserved
loop-node-preserved c = λ n. gather (λ ns. Contains ns n) _ _ _ _ c.loop-node.node-iterator c.in-Some.node c.next.new.self c.in-Some.ensures.steps
    (contains_splits c.in-Some.node n c.next.new.self) (c.loop-node.invariant n) (c.in_ok-put.ensures.gains n)

pub returns : goal.returns
returns c = λ n. gathered (λ ns. Contains ns n) _ _ c.loop-node.node-iterator c.in-None.ensures.steps.0 (contains_none n) (c.loop-node.invariant n)

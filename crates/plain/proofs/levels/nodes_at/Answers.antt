use Rattle.std.proofs.Common.{arith}
use Rattle.plain.proofs.Candidates.{nodes_more}
use Rattle.plain.proofs.levels.nodes_at.Goals as goal

pub loop-object-preserved : goal.loop-object-preserved
loop-object-preserved c =
    nodes_more c.args.source.now c.args.objects.now c.loop-object.object-index c.args.level c.object-item.result c.loop-object.nodes.items c.push_nodes.new.nodes.items (omega arith) (cc) c.in_ok-push_nodes.ensures c.loop-object.invariant

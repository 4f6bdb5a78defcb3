use Rattle.std.proofs.Common.{refl}
use Rattle.region.proofs.Listing.{place_same}
use Rattle.region.proofs.Swept.{loose_more}
use Rattle.region.proofs.sweeping.add_loose_of_each.Goals as goal

pub loop-node-preserved : goal.loop-node-preserved
loop-node-preserved c = λ turned first. loose_more c.args.old.now.rows c.args.touched.now c.args.named.now c.args.roots.now turned c.args.nodes.now c.loop-node.node-index _
    c.loop-node.found c.add_loose_of.new.found c.loop-node-test.true (place_same c.args.nodes.now c.args.nodes.now c.loop-node.node-index _ refl c.loop-node-test.true)
    (c.loop-node.invariant turned first) c.in_ok-add_loose_of.ensures

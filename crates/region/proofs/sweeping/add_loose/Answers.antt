use Rattle.std.proofs.Common.{[], refl, ◌&&◌}
use Rattle.std.proofs.lemmas.Bool.{false≢true}
use Rattle.least_sets.specs.World.{has}
use Rattle.region.specs.Sweeping.{is_loose}
use Rattle.region.proofs.Listing.{adds_none, place_same}
use Rattle.region.proofs.Walked.{adds_picked}
use Rattle.region.proofs.sweeping.add_loose.Goals as goal

pub loop-node-init : goal.loop-node-init
loop-node-init c = adds_none c.args.found.now (λ u. has [] u && is_loose c.args.old.now.rows c.args.touched.now c.args.named.now c.args.roots.now u) c.is_distinct.ensures (λ u h. absurd (false≢true h))

pub loop-node-preserved : goal.loop-node-preserved
loop-node-preserved c = adds_picked c.args.nodes.now c.loop-node.node-index _ c.is_loose.result (λ u. is_loose c.args.old.now.rows c.args.touched.now c.args.named.now c.args.roots.now u)
    c.args.found.now c.loop-node.found c.add_if.new.self (place_same c.args.nodes.now c.args.nodes.now c.loop-node.node-index _ refl c.loop-node-test.true) c.loop-node-test.true c.is_loose.ensures c.loop-node.invariant c.in_ok-add_if.ensures

use Rattle.std.proofs.Common.{[], refl, ◌&&◌, not, ap}
use Rattle.std.proofs.lemmas.Bool.{false≢true}
use Rattle.least_sets.specs.World.{has}
use Rattle.region.specs.Gathered.{stays}
use Rattle.region.proofs.Listing.{adds_none, place_same}
use Rattle.region.proofs.Walked.{adds_picked}
use Rattle.region.proofs.gathering.add_needed.Goals as goal

pub loop-node-init : goal.loop-node-init
loop-node-init c = adds_none c.args.found.now (λ u. has [] u && not (stays c.args.old.now.rows c.args.touched.now u)) c.is_distinct.ensures (λ u h. absurd (false≢true h))

pub loop-node-preserved : goal.loop-node-preserved
loop-node-preserved c = adds_picked c.args.more.now c.loop-node.node-index _ (not c.does_stay.result) (λ u. not (stays c.args.old.now.rows c.args.touched.now u))
    c.args.found.now c.loop-node.found c.add_if.new.self (place_same c.args.more.now c.args.more.now c.loop-node.node-index _ refl c.loop-node-test.true) c.loop-node-test.true (ap not c.does_stay.ensures) c.loop-node.invariant c.in_ok-add_if.ensures

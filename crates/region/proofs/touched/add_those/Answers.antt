use Rattle.std.proofs.Common.{[], refl, ◌&&◌}
use Rattle.std.proofs.lemmas.Bool.{false≢true}
use Rattle.least_sets.specs.World.{has}
use Rattle.region.specs.Tables.{arc_in}
use Rattle.region.proofs.Listing.{adds_none, place_same}
use Rattle.region.proofs.Walked.{adds_picked}
use Rattle.region.proofs.touched.add_those.Goals as goal

pub loop-n-init : goal.loop-n-init
loop-n-init c = adds_none c.args.found.now (λ u. has [] u && arc_in c.args.old.now.rows u c.args.node) c.is_distinct.ensures (λ u h. absurd (false≢true h))

pub loop-n-preserved : goal.loop-n-preserved
loop-n-preserved c = adds_picked c.args.nodes.now c.loop-n.n-index _ c.names.result (λ u. arc_in c.args.old.now.rows u c.args.node)
    c.args.found.now c.loop-n.found c.add_if.new.self (place_same c.args.nodes.now c.args.nodes.now c.loop-n.n-index _ refl c.loop-n-test.true) c.loop-n-test.true c.names.ensures c.loop-n.invariant c.in_ok-add_if.ensures

use Rattle.std.proofs.Common.{refl, sym, ◌∙◌}
use Rattle.region.specs.Sweeping.{supports}
use Rattle.region.proofs.Listing.{place_same}
use Rattle.region.proofs.Swept.{any_here, any_next}
use Rattle.region.proofs.sweeping.has_support.Goals as goal

pub returns-then-is_support : goal.returns-then-is_support
returns-then-is_support c = any_here (supports c.args.old.now.rows c.args.touched.now c.args.suspects.now c.args.node) c.args.nodes.now c.loop-b.b-index _
    c.loop-b-test.true (place_same c.args.nodes.now c.args.nodes.now c.loop-b.b-index _ refl c.loop-b-test.true) (sym c.is_support.ensures ∙ c.if-is_support.true)

pub loop-b-preserved : goal.loop-b-preserved
loop-b-preserved c = any_next (supports c.args.old.now.rows c.args.touched.now c.args.suspects.now c.args.node) c.args.nodes.now c.loop-b.b-index _
    c.loop-b-test.true (place_same c.args.nodes.now c.args.nodes.now c.loop-b.b-index _ refl c.loop-b-test.true) c.loop-b.invariant (sym c.is_support.ensures ∙ c.if-is_support.false)

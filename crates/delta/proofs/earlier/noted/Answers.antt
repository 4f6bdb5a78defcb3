use Rattle.std.proofs.Common.{take, refl, subst, arith}
use Rattle.region.proofs.Listing.{place_same}
use Rattle.facts.proofs.Naming.{one_more, all_of}
use Rattle.delta.specs.Noted.{led_in}
use Rattle.delta.specs.inside.Noting.{AreNotedOf}
use Rattle.delta.proofs.Noting.{noted_none}
use Rattle.delta.proofs.earlier.noted.Goals as goal

pub loop-group-init : goal.loop-group-init
loop-group-init c = noted_none c.args.rev (led_in c.args.sets.now.rows) c.new-list.result.items c.new-list.ensures.items

pub loop-group-preserved : goal.loop-group-preserved
loop-group-preserved c = subst (λ xs. AreNotedOf c.args.rev (led_in c.args.sets.now.rows) xs c.push_noted.new.list.items)
    (one_more c.args.groups.now c.loop-group.group-index _ c.loop-group-test.true (place_same c.args.groups.now c.args.groups.now c.loop-group.group-index _ refl c.loop-group-test.true))
    (c.in_ok-push_noted.ensures (take c.loop-group.group-index c.args.groups.now) c.loop-group.invariant)

pub returns : goal.returns
returns c = subst (λ xs. AreNotedOf c.args.rev (led_in c.args.sets.now.rows) xs c.loop-group.list.items)
    (all_of c.args.groups.now c.loop-group.group-index (omega (arith, c.loop-group-test.false))) c.loop-group.invariant

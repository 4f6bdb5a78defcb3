use Rattle.std.proofs.Common.{take, subst, arith}
use Rattle.facts.proofs.Naming.{one_more, all_of}
use Rattle.delta.specs.inside.Changing.{AreOfEvents}
use Rattle.delta.proofs.Lists.{events_none}
use Rattle.delta.proofs.leading.changed_by.Goals as goal

pub loop-event-init : goal.loop-event-init
loop-event-init c = events_none c.args.nodes.now c.new-ids.result.items c.new-ids.ensures.items

pub loop-event-preserved : goal.loop-event-preserved
loop-event-preserved c = subst (λ es. AreOfEvents c.args.nodes.now es c.push_changed.new.ids.items)
    (one_more c.args.events.now c.loop-event.event-index c.event-item.result c.loop-event-test.true c.event-item.is)
    (c.in_ok-push_changed.ensures (take c.loop-event.event-index c.args.events.now) c.loop-event.invariant)

pub returns : goal.returns
returns c = subst (λ es. AreOfEvents c.args.nodes.now es c.loop-event.ids.items)
    (all_of c.args.events.now c.loop-event.event-index (omega (arith, c.loop-event-test.false))) c.loop-event.invariant

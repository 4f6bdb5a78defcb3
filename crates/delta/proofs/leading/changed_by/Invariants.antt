use Rattle.std.proofs.Common.{take}
use Rattle.delta.specs.inside.Changing.{AreOfEvents}
use Rattle.delta.proofs.leading.changed_by.Given as goal

abbrev pub invariant-loop-event : goal.invariant-loop-event
invariant-loop-event l = AreOfEvents l.nodes (take l.event-index l.events) l.ids.items

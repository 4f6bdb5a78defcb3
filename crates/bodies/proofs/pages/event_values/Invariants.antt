use Rattle.std.proofs.Common.{◌≡◌, take, map}
use Rattle.serde_json.specs.View.{view}
use Rattle.bodies.specs.Pages.{event_data}
use Rattle.bodies.proofs.pages.event_values.Given as goal

abbrev pub invariant-loop-event : goal.invariant-loop-event
invariant-loop-event l = map view l.values.items ≡ map (event_data l.store) (take l.event-index l.events)

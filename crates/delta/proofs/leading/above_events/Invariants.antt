use Rattle.std.proofs.Common.{take, map}
use Rattle.std.specs.Prelude.{Contains}
use Rattle.facts.specs.Numbers.{AreNumbersOf}
use Rattle.delta.specs.Layers.{IsAbove}
use Rattle.delta.specs.Telling.{IsMore}
use Rattle.delta.proofs.leading.above_events.Given as goal

abbrev pub invariant-loop-event : goal.invariant-loop-event
invariant-loop-event l = record {
  more : IsMore l.initial.nodes l.nodes;
  numbers : AreNumbersOf l.nodes l.ids.items (IsAbove l.config (Contains (map (λ e. e.tuple) (take l.event-index l.events))));
}

use Rattle.std.proofs.Common.{take}
use Rattle.std.specs.Prelude.{Contains}
use Rattle.facts.specs.Numbers.{AreNumbersOf}
use Rattle.delta.specs.Layers.{IsAbove}
use Rattle.delta.specs.Telling.{IsMore}
use Rattle.delta.proofs.leading.above_tuples.Given as goal

abbrev pub invariant-loop-tuple : goal.invariant-loop-tuple
invariant-loop-tuple l = record {
  more : IsMore l.initial.nodes l.nodes;
  numbers : AreNumbersOf l.nodes l.ids.items (IsAbove l.config (Contains (take l.tuple-index l.tuples)));
}

use Rattle.std.proofs.Common.{take}
use Rattle.std.specs.Prelude.{Contains}
use Rattle.versions.specs.Named.{nodes_in}
use Rattle.facts.specs.Numbers.{Grew, AreNumbersOf}
use Rattle.facts.proofs.reading.sets_in.Given as goal

abbrev pub invariant-loop-tuple : goal.invariant-loop-tuple
invariant-loop-tuple l = record {
  grew : Grew l.initial.nodes l.nodes;
  numbers : AreNumbersOf l.nodes l.ids.items (Contains (nodes_in (take l.tuple-index l.tuples)));
}

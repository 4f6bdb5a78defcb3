use Rattle.std.proofs.Common.{take}
use Rattle.facts.specs.Numbers.{Grew, AreNumbersOf}
use Rattle.facts.specs.Telling.{IsComputedOf}
use Rattle.facts.proofs.reading.computed_of.Given as goal

abbrev pub invariant-loop-object : goal.invariant-loop-object
invariant-loop-object l = record {
  grew : Grew l.initial.nodes l.nodes;
  numbers : AreNumbersOf l.nodes l.ids.items (IsComputedOf l.config (take l.object-index l.objects) l.relation);
}

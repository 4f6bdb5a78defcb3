use Rattle.std.proofs.Common.{take}
use Rattle.std.specs.Prelude.{Contains}
use Rattle.facts.specs.Numbers.{AreNumbersOf}
use Rattle.delta.specs.Telling.{IsMore}
use Rattle.delta.proofs.telling.numbers_of.Given as goal

abbrev pub invariant-loop-name : goal.invariant-loop-name
invariant-loop-name l = record {
  more : IsMore l.initial.nodes l.nodes;
  numbers : AreNumbersOf l.nodes l.ids.items (Contains (take l.name-index l.names));
}

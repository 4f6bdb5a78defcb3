use Rattle.std.proofs.Common.{take}
use Rattle.std.specs.Prelude.{Contains}
use Rattle.versions.specs.Named.{objects_in}
use Rattle.facts.specs.Numbers.{Grew, AreNumbersOf}
use Rattle.facts.proofs.reading.users_in.Given as goal

abbrev pub invariant-loop-tuple : goal.invariant-loop-tuple
invariant-loop-tuple l = record {
  grew : Grew l.initial.users l.users;
  numbers : AreNumbersOf l.users l.ids.items (Contains (objects_in (take l.tuple-index l.tuples)));
}

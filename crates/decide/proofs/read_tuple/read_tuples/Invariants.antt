use Rattle.std.proofs.Common.{◌≡◌, take}
use Rattle.decide.proofs.read_tuple.read_tuples.Given as goal

abbrev pub invariant-loop-tuple : goal.invariant-loop-tuple
invariant-loop-tuple l = l.read.items ≡ take l.tuple-index l.tuples

use Rattle.std.proofs.Common.{◌≡◌, drop}
use Rattle.std.specs.List.{list_all}
use Rattle.meaning.specs.Admits.{admits}
use Rattle.leopard.proofs.input.are_admitted.Given as goal

abbrev pub invariant-loop-tuple : goal.invariant-loop-tuple
invariant-loop-tuple l = list_all (admits l.config) (drop l.tuple-index l.tuples) ≡ list_all (admits l.config) l.tuples

use Rattle.std.proofs.Common.{take}
use Rattle.least_sets.specs.World.{has}
use Rattle.least_sets.specs.Walks.{Adds}
use Rattle.region.proofs.found.Found.add_all.Given as goal

abbrev pub invariant-loop-id : goal.invariant-loop-id
invariant-loop-id l = Adds l.initial.self l.self (has (take l.id-index l.more))

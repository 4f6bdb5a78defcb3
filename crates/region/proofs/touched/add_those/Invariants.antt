use Rattle.std.proofs.Common.{◌&&◌, take}
use Rattle.least_sets.specs.World.{has}
use Rattle.least_sets.specs.Walks.{Adds}
use Rattle.region.specs.Tables.{arc_in}
use Rattle.region.proofs.touched.add_those.Given as goal

abbrev pub invariant-loop-n : goal.invariant-loop-n
invariant-loop-n l = Adds l.initial.found l.found (λ u. has (take l.n-index l.nodes) u && arc_in l.old.rows u l.node)

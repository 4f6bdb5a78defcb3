use Rattle.std.proofs.Common.{◌&&◌, not, take}
use Rattle.least_sets.specs.World.{has}
use Rattle.least_sets.specs.Walks.{Adds}
use Rattle.region.specs.Gathered.{stays}
use Rattle.region.proofs.gathering.add_roots.Given as goal

abbrev pub invariant-loop-node : goal.invariant-loop-node
invariant-loop-node l = Adds l.initial.found l.found (λ u. has (take l.node-index l.more) u && (has l.roots u && not (stays l.old.rows l.touched u)))

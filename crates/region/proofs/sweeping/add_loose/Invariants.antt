use Rattle.std.proofs.Common.{◌&&◌, take}
use Rattle.least_sets.specs.World.{has}
use Rattle.least_sets.specs.Walks.{Adds}
use Rattle.region.specs.Sweeping.{is_loose}
use Rattle.region.proofs.sweeping.add_loose.Given as goal

abbrev pub invariant-loop-node : goal.invariant-loop-node
invariant-loop-node l = Adds l.initial.found l.found (λ u. has (take l.node-index l.nodes) u && is_loose l.old.rows l.touched l.named l.roots u)

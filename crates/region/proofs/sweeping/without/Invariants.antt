use Rattle.std.proofs.Common.{◌&&◌, not, take}
use Rattle.least_sets.specs.World.{has}
use Rattle.least_sets.specs.Walks.{Adds}
use Rattle.region.proofs.sweeping.without.Given as goal

abbrev pub invariant-loop-node : goal.invariant-loop-node
invariant-loop-node l = Adds l.initial.gone l.gone (λ u. has (take l.node-index l.nodes) u && not (has l.alive u))

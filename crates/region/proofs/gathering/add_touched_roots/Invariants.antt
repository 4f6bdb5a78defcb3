use Rattle.std.proofs.Common.{◌≤◌, ◌&&◌, not, drop, length}
use Rattle.least_sets.specs.World.{has}
use Rattle.least_sets.specs.Walks.{Adds}
use Rattle.region.specs.Gathered.{stays}
use Rattle.region.proofs.gathering.add_touched_roots.Given as goal

abbrev pub invariant-loop-left : goal.invariant-loop-left
invariant-loop-left l = (l.left ≤ length l.touched) × Adds l.initial.found l.found (λ u. has (drop l.left l.touched) u && (has l.roots u && not (stays l.old.rows l.touched u)))

abbrev pub decreases-loop-left : goal.decreases-loop-left
decreases-loop-left l = l.left

use Rattle.std.proofs.Common.{◌+◌, ◌-◌, length}
use Rattle.idsets.proofs.Merging.{IsRest}
use Rattle.idsets.proofs.algebra.exclude.Given as goal

abbrev pub invariant-walk : goal.invariant-walk
invariant-walk l = IsRest l.left l.right l.rest.items l.i l.j

abbrev pub decreases-walk : goal.decreases-walk
decreases-walk l = (length l.left - l.i) + (length l.right - l.j)

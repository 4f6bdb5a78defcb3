use Rattle.std.proofs.Common.{◌+◌, ◌-◌, length}
use Rattle.idsets.proofs.Merging.{IsUnited}
use Rattle.idsets.proofs.algebra.union.Given as goal

abbrev pub invariant-walk : goal.invariant-walk
invariant-walk l = IsUnited l.left l.right l.merged.items l.i l.j

abbrev pub decreases-walk : goal.decreases-walk
decreases-walk l = (length l.left - l.i) + (length l.right - l.j)

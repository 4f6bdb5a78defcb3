use Rattle.std.proofs.Common.{◌+◌}
use Rattle.rows.specs.Retained.{snap_at}
use Rattle.shown.specs.inside.Basing.{IsIndexIn}
use Rattle.shown.proofs.groups.index_later.Given as goal

-- it has taken the commits so far
abbrev pub invariant-loop-i : goal.invariant-loop-i
invariant-loop-i l = IsIndexIn (snap_at l.rows) l.rows.floor (l.from + l.i) l.index

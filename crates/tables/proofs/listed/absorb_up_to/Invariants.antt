use Rattle.std.proofs.Common.{◌≡◌, ◌≤◌, length, take}
use Rattle.tables.specs.Listing.{listed}
use Rattle.tables.proofs.listed.absorb_up_to.Given as goal

abbrev pub invariant-loop-i : goal.invariant-loop-i
invariant-loop-i l = (l.rows ≡ listed l.initial.rows.number l.initial.rows (take l.i l.commits)) × (l.i ≤ length l.commits)

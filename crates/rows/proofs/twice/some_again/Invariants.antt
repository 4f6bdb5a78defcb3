use Rattle.rows.proofs.Repeats.{Placed}
use Rattle.rows.proofs.twice.some_again.Given as goal

-- the places so far
abbrev pub invariant-loop-i : goal.invariant-loop-i
invariant-loop-i l = Placed l.ops l.i l.places.items

use Rattle.std.proofs.Common.{◌≡◌}
use Rattle.rows.specs.Loads.{loaded_to}
use Rattle.rows.proofs.rows.Rows.new.Given as goal

abbrev pub invariant-loop-i : goal.invariant-loop-i
invariant-loop-i l = l.rows ≡ loaded_to l.loaded l.i

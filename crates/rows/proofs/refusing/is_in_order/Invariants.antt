use Rattle.std.proofs.Common.{◌≡◌, drop}
use Rattle.rows.specs.Ordered.{is_in_order}
use Rattle.rows.proofs.refusing.is_in_order.Given as goal

-- what is left decides
abbrev pub invariant-loop-i : goal.invariant-loop-i
invariant-loop-i l = is_in_order (drop l.i l.events) ≡ is_in_order l.events

use Rattle.std.proofs.Common.{◌≡◌, ◌-◌, drop}
use Rattle.rows.specs.Ordered.{is_in_order}
use Rattle.publication.proofs.within.is_in_order.Given as goal

-- the last that was looked at and what is left decide
abbrev pub invariant-loop-i : goal.invariant-loop-i
invariant-loop-i l = is_in_order (drop (l.i - 1) l.events) ≡ is_in_order l.events

use Rattle.std.proofs.Common.{◌≡◌, drop}
use Rattle.delta.specs.Noted.{led_at}
use Rattle.delta.proofs.earlier.led_at.Given as goal

-- what is left tells what all of it tells
abbrev pub invariant-loop-e : goal.invariant-loop-e
invariant-loop-e l = led_at (drop l.e-index l.later) l.sets.rows l.group l.rev ≡ led_at l.later l.sets.rows l.group l.rev

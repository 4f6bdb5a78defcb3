use Rattle.std.proofs.Common.{◌≡◌, drop}
use Rattle.direct.specs.Before.{set_at}
use Rattle.direct.proofs.noted.set_at.Given as goal

-- what is left tells what all of it tells
abbrev pub invariant-loop-e : goal.invariant-loop-e
invariant-loop-e l = set_at (drop l.e-index l.later) l.sets l.user l.rev ≡ set_at l.later l.sets l.user l.rev

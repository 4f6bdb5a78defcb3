use Rattle.std.proofs.Common.{◌≡◌, drop}
use Rattle.publication.specs.World.{is_rising}
use Rattle.publication.proofs.within.is_rising.Given as goal

-- what is left decides
abbrev pub invariant-loop-i : goal.invariant-loop-i
invariant-loop-i l = is_rising (drop l.i l.tuples) ≡ is_rising l.tuples

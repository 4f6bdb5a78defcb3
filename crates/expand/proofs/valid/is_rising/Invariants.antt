use Rattle.std.proofs.Common.{◌≡◌, drop}
use Rattle.expand.specs.inside.Rising.{is_rising}
use Rattle.expand.proofs.valid.is_rising.Given as goal

-- what is left decides
abbrev pub invariant-loop-i : goal.invariant-loop-i
invariant-loop-i l = is_rising (drop l.i l.relations) ≡ is_rising l.relations

use Rattle.std.proofs.Common.{◌≡◌, drop}
use Rattle.config.specs.Valid.{is_twice}
use Rattle.config.proofs.causes.stands_twice.Given as goal

abbrev pub invariant-loop-i : goal.invariant-loop-i
invariant-loop-i l = is_twice (drop l.i l.types) ≡ is_twice l.types

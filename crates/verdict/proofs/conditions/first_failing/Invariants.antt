use Rattle.std.proofs.Common.{◌≡◌, drop}
use Rattle.meaning.specs.Verdict.{first_from}
use Rattle.verdict.specs.Verdict.{fails}
use Rattle.verdict.proofs.conditions.first_failing.Given as goal

-- what is left decides
abbrev pub invariant-loop-i : goal.invariant-loop-i
invariant-loop-i l = first_from (fails l.rows) l.i (drop l.i l.conditions) ≡ first_from (fails l.rows) 0 l.conditions

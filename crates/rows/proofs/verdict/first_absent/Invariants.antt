use Rattle.std.proofs.Common.{◌≡◌, drop}
use Rattle.meaning.specs.Verdict.{first_from, deletes_nothing}
use Rattle.rows.proofs.verdict.first_absent.Given as goal

-- what is left decides
abbrev pub invariant-loop-i : goal.invariant-loop-i
invariant-loop-i l = first_from (deletes_nothing l.view.tuples) l.i (drop l.i l.ops) ≡ first_from (deletes_nothing l.view.tuples) 0 l.ops

use Rattle.std.proofs.Common.{◌≡◌, drop}
use Rattle.meaning.specs.Verdict.{first_from, inserts_again}
use Rattle.rows.proofs.verdict.first_there.Given as goal

-- what is left decides
abbrev pub invariant-loop-i : goal.invariant-loop-i
invariant-loop-i l = first_from (inserts_again l.view.tuples) l.i (drop l.i l.ops) ≡ first_from (inserts_again l.view.tuples) 0 l.ops

use Rattle.std.proofs.Common.{◌≡◌, ◌++◌, drop}
use Rattle.rows.proofs.committed.copies.Given as goal

-- what is copied and what is left are all
abbrev pub invariant-loop-commit : goal.invariant-loop-commit
invariant-loop-commit l = l.copies.items ++ drop l.commit-index l.commits ≡ l.commits

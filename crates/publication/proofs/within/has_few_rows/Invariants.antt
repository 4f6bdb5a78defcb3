use Rattle.std.proofs.Common.{◌≡◌, ◌+◌, drop}
use Rattle.names.specs.declared.limits.TheConstants.{MAX_ROWS}
use Rattle.meaning.specs.History.{rows_of}
use Rattle.publication.proofs.within.has_few_rows.Given as goal

-- what is left of the room and of the commits differ as at first
abbrev pub invariant-loop-commit : goal.invariant-loop-commit
invariant-loop-commit l = MAX_ROWS + rows_of (drop l.commit-index l.commits) ≡ l.room + (l.rows + rows_of l.commits)

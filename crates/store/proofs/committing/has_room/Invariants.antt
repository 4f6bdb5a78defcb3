use Rattle.std.proofs.Common.{◌≡◌, ◌+◌, drop}
use Rattle.names.specs.declared.limits.TheConstants.{MAX_ROWS}
use Rattle.meaning.specs.History.{rows_of}
use Rattle.store.proofs.committing.has_room.Given as goal

-- what is left of the limit is for the commits that are left
abbrev pub invariant-loop-commit : goal.invariant-loop-commit
invariant-loop-commit l = l.tuples + rows_of l.commits + l.left ≡ MAX_ROWS + rows_of (drop l.commit-index l.commits)

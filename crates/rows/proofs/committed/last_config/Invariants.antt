use Rattle.std.proofs.Common.{◌≡◌, ◌+◌, drop}
use Rattle.rows.specs.Retained.{last_config}
use Rattle.rows.proofs.committed.last_config.Given as goal

-- where the commits that are left begin, and what they bring
abbrev pub invariant-loop-commit : goal.invariant-loop-commit
invariant-loop-commit l = (l.at ≡ l.fn.rev + l.commit-index) × (last_config l.last l.at (drop l.commit-index l.commits) ≡ last_config l.fn.base l.fn.rev l.commits)

use Rattle.std.proofs.Common.{◌≡◌, drop}
use Rattle.publication.specs.World.{are_admitted}
use Rattle.publication.proofs.admitted.are_admitted.Given as goal

-- what is left decides
abbrev pub invariant-loop-commit : goal.invariant-loop-commit
invariant-loop-commit l = are_admitted l.snapshot (drop l.commit-index l.commits) ≡ are_admitted l.initial.snapshot l.commits

use Rattle.std.proofs.Common.{◌≡◌, drop}
use Rattle.std.specs.List.{list_all}
use Rattle.rows.specs.Ordered.{is_ordered}
use Rattle.publication.proofs.within.are_ordered.Given as goal

-- what is left decides
abbrev pub invariant-loop-commit : goal.invariant-loop-commit
invariant-loop-commit l = list_all is_ordered (drop l.commit-index l.commits) ≡ list_all is_ordered l.commits

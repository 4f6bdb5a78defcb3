use Rattle.std.proofs.Common.{◌≡◌, ◌+◌, ◌++◌, take}
use Rattle.watch.specs.Watched.{watched}
use Rattle.watch.proofs.pages.push_commits.Given as goal

-- those of the commits so far
abbrev pub invariant-loop-commit : goal.invariant-loop-commit
invariant-loop-commit l =
    (l.rev ≡ l.above + l.commit-index) × (l.events.items ≡ l.initial.events.items ++ watched l.namespaces l.above (take l.commit-index l.commits))

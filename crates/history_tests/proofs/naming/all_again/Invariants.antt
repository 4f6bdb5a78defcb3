use Rattle.std.proofs.Common.{◌≡◌, take}
use Rattle.history_tests.proofs.naming.all_again.Given as goal

abbrev pub invariant-loop-commit : goal.invariant-loop-commit
invariant-loop-commit l = l.again.items ≡ take l.commit-index l.commits

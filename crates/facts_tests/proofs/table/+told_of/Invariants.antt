use Rattle.std.proofs.Common.{length}
use Rattle.facts_tests.proofs.table.+told_of.Given as goal

abbrev pub decreases-told_of : goal.decreases-told_of
decreases-told_of l = length l.known.now

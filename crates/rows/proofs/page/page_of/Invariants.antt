use Rattle.std.proofs.Common.{length}
use Rattle.rows.proofs.Paging.{Left}
use Rattle.rows.proofs.page.page_of.Given as goal

abbrev pub invariant-texts : goal.invariant-texts
invariant-texts l = Left l.asked l.fn.tuples l.page.items l.tuples

abbrev pub decreases-texts : goal.decreases-texts
decreases-texts l = length l.tuples

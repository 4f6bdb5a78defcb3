use Rattle.std.proofs.Common.{◌+◌, ◌-◌, length}
use Rattle.strata.specs.inside.Search.{unmarked}
use Rattle.strata.proofs.Spreads.{IsSearch}
use Rattle.strata.proofs.search.reached.Given as goal

abbrev pub invariant-loop-at : goal.invariant-loop-at
invariant-loop-at l = IsSearch l.steps l.start l.count l.at l.search.seen.items l.search.marks.items

abbrev pub decreases-loop-at : goal.decreases-loop-at
decreases-loop-at l = (unmarked l.search.marks.items + length l.search.seen.items) - l.at

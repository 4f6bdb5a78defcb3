use Rattle.strata.specs.inside.Search.{IsSpread}
use Rattle.strata.proofs.search.Search.spread.Given as goal

abbrev pub invariant-loop-s : goal.invariant-loop-s
invariant-loop-s l = IsSpread l.initial.self.seen.items l.initial.self.marks.items l.self.seen.items l.self.marks.items l.steps l.s-index

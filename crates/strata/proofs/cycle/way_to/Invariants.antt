use Rattle.std.proofs.Common.{ℕ, ◌<◌, List, length}
use Rattle.strata.specs.declared.graph.Step.{Step}
use Rattle.strata.specs.inside.Search.{IsTrail, IsWay}
use Rattle.strata.proofs.cycle.way_to.Given as goal

abbrev pub invariant-loop-at : goal.invariant-loop-at
invariant-loop-at l = (l.at < length l.seen) × ((steps : List Step) (start : ℕ) → IsTrail steps start l.seen → IsWay steps start l.seen l.at l.fn.place l.way.items)

abbrev pub decreases-loop-at : goal.decreases-loop-at
decreases-loop-at l = l.at

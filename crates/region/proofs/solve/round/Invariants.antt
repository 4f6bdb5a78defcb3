use Rattle.least_sets.specs.World.{has}
use Rattle.region.specs.Tables.{over}
use Rattle.region.proofs.Round.{RoundAt}
use Rattle.region.proofs.solve.round.Given as goal

abbrev pub invariant-loop-left : goal.invariant-loop-left
invariant-loop-left l = RoundAt l.told l.level l.waiting l.left (over l.initial.fresh l.kept.rows) (over l.fresh l.kept.rows) (has l.next.items)

abbrev pub decreases-loop-left : goal.decreases-loop-left
decreases-loop-left l = l.left

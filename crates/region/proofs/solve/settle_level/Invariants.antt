use Rattle.std.proofs.Common.{ℕ}
use Rattle.least_sets.specs.World.{has, Fact}
use Rattle.least_sets.specs.Steps.{StepsTo}
use Rattle.region.specs.Tables.{over}
use Rattle.region.specs.Steps.{is_told, Tells, IsWaiting, rooms}
use Rattle.region.proofs.solve.settle_level.Given as goal

abbrev pub invariant-loop-waiting : goal.invariant-loop-waiting
invariant-loop-waiting l = record {
  steps : (world : ℕ → Fact) → Tells world l.told → StepsTo world (is_told l.told) l.level (over l.initial.fresh l.kept.rows) (over l.fresh l.kept.rows);
  waits : IsWaiting l.told l.level (over l.fresh l.kept.rows) (has l.waiting);
}

abbrev pub decreases-loop-waiting : goal.decreases-loop-waiting
decreases-loop-waiting l = rooms l.told (over l.fresh l.kept.rows)

use Rattle.std.proofs.Common.{ℕ}
use Rattle.least_sets.specs.World.{Fact}
use Rattle.least_sets.specs.Least.{IsLevelled}
use Rattle.least_sets.proofs.Solved.{SolvedBelow}
use Rattle.region.specs.Tables.{over, holds}
use Rattle.region.specs.Steps.{is_told, Tells}
use Rattle.region.proofs.solve.solve.Given as goal

abbrev pub invariant-loop-level : goal.invariant-loop-level
invariant-loop-level l = (world : ℕ → Fact) → IsLevelled world → Tells world l.told → SolvedBelow world (is_told l.told) l.level (holds l.kept.rows) (over l.fresh l.kept.rows)

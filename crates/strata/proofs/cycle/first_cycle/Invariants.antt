use Rattle.std.proofs.Common.{ℕ, ◌<◌}
use Rattle.strata.specs.Graph.{NoneBackTo}
use Rattle.strata.proofs.cycle.first_cycle.Given as goal

abbrev pub invariant-loop-to : goal.invariant-loop-to
invariant-loop-to l = (b : ℕ) → b < l.to → NoneBackTo l.steps b

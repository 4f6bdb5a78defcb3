use Rattle.std.proofs.Common.{ℕ, ◌<◌}
use Rattle.decide.specs.inside.Searches.{IsStacked}
use Rattle.decide.proofs.search.Search.is_settled.Given as goal

abbrev pub invariant-loop-stack : goal.invariant-loop-stack
invariant-loop-stack l = (k i : ℕ) → k < l.stack-index → IsStacked l.self k i → ⊥

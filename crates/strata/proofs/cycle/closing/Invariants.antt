use Rattle.std.proofs.Common.{◌≡◌, ℕ, ◌<◌, get_or}
use Rattle.strata.specs.declared.graph.Step.{Step}
use Rattle.strata.specs.inside.Search.{IsClosing}
use Rattle.strata.proofs.cycle.closing.Given as goal

abbrev pub invariant-loop-s : goal.invariant-loop-s
invariant-loop-s l = (k : ℕ) (s : Step) → k < l.s-index → get_or l.steps k s ≡ s → IsClosing l.steps l.to l.marks s → ⊥

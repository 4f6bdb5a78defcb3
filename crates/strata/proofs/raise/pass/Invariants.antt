use Rattle.strata.specs.inside.Raise.{IsPass}
use Rattle.strata.proofs.raise.pass.Given as goal

abbrev pub invariant-loop-s : goal.invariant-loop-s
invariant-loop-s l = IsPass l.steps l.initial.levels l.levels l.s-index l.rose

use Rattle.std.specs.Prelude.{⊤}
use Rattle.expand.proofs.expanding.first_parents.Given as goal

-- no turn rests on those before it
abbrev pub invariant-loop : goal.invariant-loop
invariant-loop l = ⊤

use Rattle.std.specs.List.{AllAdjacentBelow}
use Rattle.store.specs.inside.Following.{Ascends}
use Rattle.store.specs.inside.Reading.{as_config}
use Rattle.store.proofs.configs.are_ascending.Given as goal

abbrev pub invariant-loop-i : goal.invariant-loop-i
invariant-loop-i l = AllAdjacentBelow (λ a b. Ascends l.floor (as_config a) (as_config b)) l.configs l.i

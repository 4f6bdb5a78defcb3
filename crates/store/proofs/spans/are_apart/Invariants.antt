use Rattle.std.specs.List.{AllAdjacentBelow}
use Rattle.store.specs.inside.Following.{Precedes}
use Rattle.store.specs.inside.Reading.{as_span}
use Rattle.store.proofs.spans.are_apart.Given as goal

abbrev pub invariant-loop-i : goal.invariant-loop-i
invariant-loop-i l = AllAdjacentBelow (λ a b. Precedes (as_span a) (as_span b)) l.spans l.i

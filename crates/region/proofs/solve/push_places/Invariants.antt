use Rattle.std.proofs.Common.{◌≡◌, ◌&&◌, ◌||◌, ℕ, not, take}
use Rattle.least_sets.specs.World.{has}
use Rattle.region.specs.Steps.{is_to_come}
use Rattle.region.proofs.solve.push_places.Given as goal

abbrev pub invariant-loop-i : goal.invariant-loop-i
invariant-loop-i l = (i : ℕ) → has l.next.items i ≡ (has l.initial.next.items i || (has (take l.i-index l.places) i && not (is_to_come l.waiting l.place i)))

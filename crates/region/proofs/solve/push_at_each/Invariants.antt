use Rattle.std.proofs.Common.{◌≡◌, ℕ, ◌&&◌, ◌||◌, take, nat_eq}
use Rattle.least_sets.specs.World.{has}
use Rattle.region.specs.Tables.{listed}
use Rattle.region.proofs.solve.push_at_each.Given as goal

abbrev pub invariant-loop-at : goal.invariant-loop-at
invariant-loop-at l = (a b : ℕ) → listed l.table a b ≡ (listed l.initial.table a b || (nat_eq b l.id && has (take l.at-index l.places) a))

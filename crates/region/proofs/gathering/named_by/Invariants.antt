use Rattle.std.proofs.Common.{ℕ, ◌≡◌, take}
use Rattle.least_sets.specs.World.{has}
use Rattle.region.specs.Sweeping.{names_told}
use Rattle.region.proofs.gathering.named_by.Given as goal

abbrev pub invariant-loop-t : goal.invariant-loop-t
invariant-loop-t l = (m : ℕ) → has l.nodes.items m ≡ names_told (take l.t-index l.told) m

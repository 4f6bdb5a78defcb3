use Rattle.std.proofs.Common.{ℕ, List, [], take}
use Rattle.region.specs.Sweeping.{AreLoose}
use Rattle.region.proofs.sweeping.add_loose_of_each.Given as goal

abbrev pub invariant-loop-node : goal.invariant-loop-node
invariant-loop-node l = (turned : List ℕ) → AreLoose l.old.rows l.touched l.named l.roots turned [] l.initial.found
    → AreLoose l.old.rows l.touched l.named l.roots turned (take l.node-index l.nodes) l.found

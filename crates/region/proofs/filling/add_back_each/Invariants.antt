use Rattle.std.proofs.Common.{ℕ, ◌≡◌, true, take}
use Rattle.least_sets.specs.World.{has}
use Rattle.region.specs.Tables.{listed}
use Rattle.region.proofs.filling.add_back_each.Given as goal

abbrev pub invariant-loop-end : goal.invariant-loop-end
invariant-loop-end l = record {
  grows : (a b : ℕ) → listed l.initial.back a b ≡ true → listed l.back a b ≡ true;
  there : (m : ℕ) → has (take l.end-index l.ends) m ≡ true → listed l.back m l.node ≡ true;
}

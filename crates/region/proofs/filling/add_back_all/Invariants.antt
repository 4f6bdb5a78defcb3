use Rattle.std.proofs.Common.{ℕ, ◌≡◌, true, take}
use Rattle.region.specs.Tables.{listed}
use Rattle.region.specs.Steps.{is_told}
use Rattle.region.specs.Filled.{names_in}
use Rattle.region.proofs.filling.add_back_all.Given as goal

abbrev pub invariant-loop-t : goal.invariant-loop-t
invariant-loop-t l = record {
  grows : (a b : ℕ) → listed l.initial.back a b ≡ true → listed l.back a b ≡ true;
  there : (n m : ℕ) → is_told (take l.t-index l.told) n ≡ true → names_in l.ready n m ≡ true → listed l.back m n ≡ true;
}

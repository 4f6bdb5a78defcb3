use Rattle.std.proofs.Common.{ℕ, ◌≡◌, true, false, take}
use Rattle.region.specs.Tables.{over, holds}
use Rattle.region.specs.Steps.{is_told}
use Rattle.region.proofs.solve.emptied.Given as goal

abbrev pub invariant-loop-t : goal.invariant-loop-t
invariant-loop-t l = record {
  told : (user n : ℕ) → is_told (take l.t-index l.told) n ≡ true → over l.fresh l.kept.rows user n ≡ false;
  others : (user n : ℕ) → is_told (take l.t-index l.told) n ≡ false → over l.fresh l.kept.rows user n ≡ holds l.kept.rows user n;
}

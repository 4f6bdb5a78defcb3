use Rattle.std.proofs.Common.{ℕ, ◌≡◌, true, take}
use Rattle.std.specs.Prelude.{is_some}
use Rattle.std.specs.Ordering.{nat_cmp}
use Rattle.std.specs.BTreeMap.{get}
use Rattle.region.specs.Tables.{row_of}
use Rattle.region.specs.Steps.{is_told}
use Rattle.region.proofs.filling.take_places.Given as goal

abbrev pub invariant-loop-t : goal.invariant-loop-t
invariant-loop-t l = record {
  same : (n : ℕ) → row_of l.rows n ≡ row_of l.initial.rows n;
  keys : (n : ℕ) → is_told (take l.t-index l.told) n ≡ true → is_some (get nat_cmp l.rows n) ≡ true;
}

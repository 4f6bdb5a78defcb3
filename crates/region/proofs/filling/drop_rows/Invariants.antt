use Rattle.std.proofs.Common.{ℕ, ◌≡◌, true, ◌&&◌, not, cond, take}
use Rattle.std.specs.Prelude.{None, is_some}
use Rattle.std.specs.Ordering.{nat_cmp}
use Rattle.std.specs.BTreeMap.{get}
use Rattle.least_sets.specs.World.{has}
use Rattle.region.specs.Tables.{row_of}
use Rattle.region.proofs.filling.drop_rows.Given as goal

abbrev pub invariant-loop-node : goal.invariant-loop-node
invariant-loop-node l = record {
  row : (n : ℕ) → row_of l.rows n ≡ cond (has (take l.node-index l.nodes) n && not (is_some (get nat_cmp l.ready n))) None (row_of l.initial.rows n);
  keys : (n : ℕ) → is_some (get nat_cmp l.ready n) ≡ true → is_some (get nat_cmp l.rows n) ≡ is_some (get nat_cmp l.initial.rows n);
}

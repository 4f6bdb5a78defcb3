use Rattle.std.proofs.Common.{ℕ, ◌≡◌, true}
use Rattle.std.specs.Prelude.{is_some}
use Rattle.std.specs.Ordering.{nat_cmp}
use Rattle.std.specs.BTreeMap.{get, btree_map_len}
use Rattle.region.specs.Tables.{row_of}
use Rattle.region.specs.Filled.{row_or}
use Rattle.region.proofs.filling.put_rows.Given as goal

abbrev pub invariant-loop-node : goal.invariant-loop-node
invariant-loop-node l = record {
  same : (n : ℕ) → row_or (get nat_cmp l.ready n) (row_of l.rows n) ≡ row_or (get nat_cmp l.initial.ready n) (row_of l.initial.rows n);
  keys : (n : ℕ) → is_some (get nat_cmp l.ready n) ≡ true → is_some (get nat_cmp l.rows n) ≡ true;
}

abbrev pub decreases-loop-node : goal.decreases-loop-node
decreases-loop-node l = btree_map_len l.ready

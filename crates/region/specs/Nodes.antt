-- Nodes in the order in which they were found.
use Rattle.std.specs.Prelude.{ℕ, ◌≡◌, List, nat_eq}
use Rattle.std.specs.Ordering.{nat_cmp}
use Rattle.std.specs.List.{IsDistinct}
use Rattle.std.specs.BTreeSet.{BTreeSet, contains}
use Rattle.least_sets.specs.World.{has}

-- the list has each node of the set once, and no other
pub record IsListOf (list : List ℕ) (seen : BTreeSet ℕ) : Type 0 where
  pub distinct : IsDistinct nat_eq list
  pub members : (u : ℕ) → contains nat_cmp seen u ≡ has list u

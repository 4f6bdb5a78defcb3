-- The first nodes of a set, in the order of nodes.
use Rattle.std.specs.Prelude.{◌≡◌, ℕ, ◌≤◌, ◌⊎◌, List, length, Contains, All}
use Rattle.std.specs.List.Sorted.{IsStrictlySortedBy}
use Rattle.std.specs.declared.cmp.Ordering.TheVariants.{Less}
use Rattle.names.specs.Order.{node_cmp}
use Rattle.names.specs.declared.node.Node.{Node}

-- The nodes are of the set and in order, at most so many. One of the set that is not among them comes after them all, and then they are as many as that.
pub record AreFirst (limit : ℕ) (P : Node → Type 0) (nodes : List Node) : Type 0 where
  pub sorted : IsStrictlySortedBy node_cmp nodes
  pub few : length nodes ≤ limit
  pub only : (n : Node) → Contains nodes n → P n
  pub others : (n : Node) → P n → Contains nodes n ⊎ ((length nodes ≡ limit) × All (λ m. node_cmp m n ≡ Less) nodes)

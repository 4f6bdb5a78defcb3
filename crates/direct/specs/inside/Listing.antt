-- Nodes by their numbers.
use Rattle.std.specs.Prelude.{ℕ, ◌≡◌, true, List, Some, Contains, ◌↔◌}
use Rattle.std.specs.List.{slice_get}
use Rattle.names.specs.declared.node.Node.{Node}
use Rattle.idsets.specs.Sets.{has}

-- the nodes are those with the numbers
abbrev pub AreNamed : List Node → List ℕ → List Node → Type 0
AreNamed table ids nodes = (n : Node) → Contains nodes n ↔ ((i : ℕ) × (has ids i ≡ true) × (slice_get table i ≡ Some n))

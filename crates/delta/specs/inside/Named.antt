-- Names by their numbers.
use Rattle.std.specs.Prelude.{ℕ, ◌≡◌, true, List, Some, Contains, ◌↔◌}
use Rattle.std.specs.List.{slice_get}
use Rattle.names.specs.declared.node.Node.{Node}
use Rattle.least_sets.specs.World.{has}

-- the nodes with the numbers
abbrev pub IsNamedBy : List Node → List ℕ → Node → Type 0
IsNamedBy table ids n = (i : ℕ) × (has ids i ≡ true) × (slice_get table i ≡ Some n)

-- the nodes are those with the numbers
abbrev pub AreNamed : List Node → List ℕ → List Node → Type 0
AreNamed table ids nodes = (n : Node) → Contains nodes n ↔ IsNamedBy table ids n

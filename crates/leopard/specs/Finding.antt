-- Groups on the way to an answer: ids in place of those that have one, and the others.
use Rattle.std.specs.Prelude.{◌≡◌, ℕ, ◌⊎◌, ◌↔◌, true, List, Some, Contains}
use Rattle.std.specs.List.{slice_get}
use Rattle.names.specs.declared.node.Node.{Node}
use Rattle.idsets.specs.Sets.{has}
use Rattle.idsets.specs.Naming.{AreDistinct}

-- the group's id is one of these
abbrev pub IsNamedBy : List Node → List ℕ → Node → Type 0
IsNamedBy names ids n = (id : ℕ) × (slice_get names id ≡ Some n) × (has ids id ≡ true)

-- the same, or it is one of the others
abbrev pub Finds : List Node → List ℕ → List Node → Node → Type 0
Finds names ids others n = IsNamedBy names ids n ⊎ Contains others n

-- the others have no id
abbrev pub AreUnnamed : List Node → List Node → Type 0
AreUnnamed names others = (n : Node) (id : ℕ) → Contains others n → slice_get names id ≡ Some n → ⊥

-- no name has two ids, and neither others have one
pub record AreApart (names others more : List Node) : Type 0 where
  pub distinct : AreDistinct names
  pub first : AreUnnamed names others
  pub second : AreUnnamed names more

-- what is found are those for which P holds
pub record AreFound (names : List Node) (P : Node → Type 0) (ids : List ℕ) (others : List Node) : Type 0 where
  pub unnamed : AreUnnamed names others
  pub all : (n : Node) → Finds names ids others n ↔ P n

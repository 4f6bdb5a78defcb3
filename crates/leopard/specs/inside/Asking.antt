-- Sets of nodes on the way to an answer. No promise rests on it.
use Rattle.std.specs.Prelude.{◌≡◌, ℕ, ◌⊎◌, ◌↔◌, List, Contains}
use Rattle.names.specs.declared.object.Object.{Object}
use Rattle.names.specs.declared.node.Node.{Node}
use Rattle.meaning.specs.Snap.{Snap}
use Rattle.meaning.specs.Form.{Form, Forms}
use Rattle.graphs.specs.Groups.{Computes, SomeComputes, IsGroupArc, GroupWalk}

-- the nodes are those for which P holds
abbrev pub AreAll : (Node → Type 0) → List Node → Type 0
AreAll P nodes = (n : Node) → Contains nodes n ↔ P n

-- the new ones are the old ones, and those for which P holds
abbrev pub Gains : (Node → Type 0) → List Node → List Node → Type 0
Gains P old new = (n : Node) → Contains new n ↔ (Contains old n ⊎ P n)

-- a computed userset of the object
abbrev pub IsComputed : Object → Form → Node → Type 0
IsComputed object w n = (c : List ℕ) × Computes w c × (n ≡ record { object = object; relation = c })

abbrev pub IsSomeComputed : Object → Forms → Node → Type 0
IsSomeComputed object ws n = (c : List ℕ) × SomeComputes ws c × (n ≡ record { object = object; relation = c })

-- Of a walk: what was seen has gained the ends, and each that is new among them is left to be looked at.
pub record Sees (ends old_seen old_left new_seen new_left : List Node) : Type 0 where
  pub seen : Gains (Contains ends) old_seen new_seen
  pub kept : (n : Node) → Contains old_left n → Contains new_left n
  pub only : (n : Node) → Contains new_left n → Contains old_left n ⊎ Contains ends n
  pub fresh : (n : Node) → Contains new_seen n → Contains old_seen n ⊎ Contains new_left n

-- What was seen are ends of walks from the group, itself among them. Each arc of one that was looked at leads to one that was seen.
pub record IsUnderWay (S : Snap) (group : Node) (seen left : List Node) : Type 0 where
  pub start : Contains seen group
  pub walked : (n : Node) → Contains seen n → GroupWalk S group n
  pub noted : (n : Node) → Contains left n → Contains seen n
  pub closed : (n m : Node) → Contains seen n → IsGroupArc S n m → Contains seen m ⊎ Contains left n

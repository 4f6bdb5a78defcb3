-- What an index is put together from. No promise rests on it.
use Rattle.std.specs.Prelude.{ℕ, ◌↔◌, List, Contains}
use Rattle.std.specs.List.Sorted.{IsStrictlySortedBy}
use Rattle.names.specs.Order.{object_cmp, node_cmp}
use Rattle.names.specs.declared.object.Object.{Object}
use Rattle.names.specs.declared.node.Node.{Node}
use Rattle.meaning.specs.Snap.{Snap}
use Rattle.graphs.specs.Groups.{IsGroupArc}
use Rattle.leopard.specs.Groups.{MemberToGroup}
use Rattle.leopard.specs.Build.{IsListed, AreSetsOf}

-- the groups and users of a build, with the arcs of each group and the direct groups of each user
pub record AreParts (S : Snap) (groups : List Node) (arcs : List (List ℕ)) (users : List Object) (direct : List (List ℕ)) : Type 0 where
  pub groups_ascend : IsStrictlySortedBy node_cmp groups
  pub listed : (n : Node) → Contains groups n ↔ IsListed S n
  pub arcs_of : AreSetsOf groups (IsGroupArc S) groups arcs
  pub users_ascend : IsStrictlySortedBy object_cmp users
  pub named : (u : Object) → Contains users u ↔ ((n : Node) × MemberToGroup S u n)
  pub direct_of : AreSetsOf groups (MemberToGroup S) users direct

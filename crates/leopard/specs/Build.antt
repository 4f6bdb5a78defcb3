-- How an index is built: its groups and its users are those that occur, in order, so that a snapshot has one.
use Rattle.std.specs.Prelude.{◌≡◌, ℕ, ◌↔◌, true, List, [], Some, Any, Contains, length, slice_index_or}
use Rattle.std.specs.List.{slice_get}
use Rattle.std.specs.List.Sorted.{IsStrictlySortedBy, IsStrictlyIncreasing}
use Rattle.names.specs.Order.{object_cmp, node_cmp}
use Rattle.names.specs.declared.object.Object.{Object}
use Rattle.names.specs.declared.node.Node.{Node}
use Rattle.meaning.specs.TupleSet as set
use Rattle.meaning.specs.Snap.{Snap}
use Rattle.graphs.specs.Groups.{GroupWalk}
use Rattle.idsets.specs.Sets.{has}
use Rattle.leopard.specs.Groups.{IsGroup, GroupToGroup, MemberToGroup}
use Rattle.leopard.specs.Index.{Index}

-- the group has a tuple of its own
abbrev pub IsOwner : Snap → Node → Type 0
IsOwner S g = Any (λ t. IsGroup S.config t.node × (g ≡ t.node)) (set.items S.tuples)

-- a walk leads to it from a group that has a tuple of its own
abbrev pub IsListed : Snap → Node → Type 0
IsListed S n = (g : Node) × IsOwner S g × GroupWalk S g n

-- in ascending order, the ids of the groups for which P holds
pub record IsSetOf (groups : List Node) (P : Node → Type 0) (set : List ℕ) : Type 0 where
  pub ascending : IsStrictlyIncreasing set
  pub ids : (id : ℕ) → (has set id ≡ true) ↔ ((n : Node) × (slice_get groups id ≡ Some n) × P n)

-- at the place of each key its set
pub record AreSetsOf {K : Type 0} (groups : List Node) (P : K → Node → Type 0) (keys : List K) (sets : List (List ℕ)) : Type 0 where
  pub even : length sets ≡ length keys
  pub each : (at : ℕ) (k : K) → slice_get keys at ≡ Some k → IsSetOf groups (P k) (slice_index_or sets at [])

-- It is built of the snapshot: its groups and users are in ascending order, those that are listed and those that a group names, with the set of each.
pub record IsBuiltOf (S : Snap) (revision : ℕ) (x : Index) : Type 0 where
  pub config : x.config ≡ S.config
  pub rev : x.rev ≡ revision
  pub groups_ascend : IsStrictlySortedBy node_cmp x.groups
  pub groups : (n : Node) → Contains x.groups n ↔ IsListed S n
  pub closures : AreSetsOf x.groups (GroupToGroup S) x.groups x.closures
  pub users_ascend : IsStrictlySortedBy object_cmp x.users
  pub users : (u : Object) → Contains x.users u ↔ ((n : Node) × MemberToGroup S u n)
  pub direct : AreSetsOf x.groups (MemberToGroup S) x.users x.direct

-- A snapshot has one index of each revision.
abbrev pub ThereIsOneBuild : Type 0
ThereIsOneBuild = (S : Snap) (rev : ℕ) (one other : Index) → IsBuiltOf S rev one → IsBuiltOf S rev other → one ≡ other

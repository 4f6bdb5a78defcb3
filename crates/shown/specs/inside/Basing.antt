-- The group index, the members of marked nodes and the tuples by their subjects that are kept.
use Rattle.std.specs.Prelude.{ℕ, ◌≡◌, ◌≤◌, ◌↔◌, true, List, Option, Some, None, IfSome}
use Rattle.names.specs.declared.node.Node.{Node}
use Rattle.meaning.specs.Snap.{Snap}
use Rattle.group_index.specs.Indices.{IsGroupIndexOf, base_of, cursor_of}
use Rattle.group_index.specs.declared.index.GroupIndex.{GroupIndex}
use Rattle.hot.specs.Kept.{IsHot, IsMarked}
use Rattle.hot.specs.declared.hot.Hot.{Hot}
use Rattle.by_subject.specs.Complete.{IsCompleteFor}
use Rattle.meaning.specs.TupleSet.{Tuples}
use Rattle.rows.specs.Retained.{Retained, snap_at}
use Rattle.shown.specs.Marks.{is_marked}
use Rattle.shown.specs.Standing.{Standing, IsSteady}

-- the index is that of the snapshots up to the cursor, from a base on that is not below the floor
pub record IsIndexIn (snaps : ℕ → Snap) (floor cursor : ℕ) (index : GroupIndex) : Type 0 where
  pub index_of : IsGroupIndexOf index snaps
  pub retained : floor ≤ base_of index
  pub come : cursor_of index ≡ cursor

-- if there is an index, it is that of the retained revisions from its base to the index cursor
abbrev pub IsKeptIndex : Standing → Option GroupIndex → Type 0
IsKeptIndex s index = IfSome index (IsIndexIn (snap_at s.kept) s.kept.floor s.index)

-- exactly these nodes are marked
abbrev pub AreMarked : List Node → Hot → Type 0
AreMarked marks hot = (n : Node) → IsMarked hot n ↔ (is_marked marks n ≡ true)

-- if there are members, they are those of the hot table's revision, of exactly the marked nodes
abbrev pub AreKeptMembers : Standing → Option Hot → Type 0
AreKeptMembers s None = Unit {0}
AreKeptMembers s (Some hot) = IsHot hot (snap_at s.kept s.hot) × AreMarked s.marks hot

pub record IsSound (s : Standing) (index : Option GroupIndex) (members : Option Hot) : Type 0 where
  pub steady : IsSteady s
  pub index_right : IsKeptIndex s index
  pub members_right : AreKeptMembers s members

-- if tuples are kept by their subjects, each that the history had since its floor is among them
abbrev pub AreKeptSubjects : Retained → Option Tuples → Type 0
AreKeptSubjects r subjects = IfSome subjects (IsCompleteFor r)

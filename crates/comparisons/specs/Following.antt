-- A history, with the members of marked nodes at one of its revisions, and the group index of some of them.
use Rattle.std.specs.Prelude.{ℕ, ◌≤◌, Option, IfSome}
use Rattle.group_index.specs.Indices.{IsGroupIndexOf, base_of, cursor_of}
use Rattle.group_index.specs.declared.index.GroupIndex.{GroupIndex}
use Rattle.hot.specs.Kept.{IsHot}
use Rattle.hot.specs.declared.hot.Hot.{Hot}
use Rattle.rows.specs.Retained.{Retained, IsRetained, newest, snap_at}

-- the cursor is retained, and the members are those of its revision
pub record AreMembersIn (r : Retained) (hot : Hot) (cursor : ℕ) : Type 0 where
  pub retained : IsRetained r cursor
  pub members : IsHot hot (snap_at r cursor)

-- the index is that of retained revisions
pub record IsIndexIn (r : Retained) (index : GroupIndex) : Type 0 where
  pub index_of : IsGroupIndexOf index (snap_at r)
  pub retained : r.floor ≤ base_of index
  pub there : cursor_of index ≤ newest r

pub record IsFollowing (r : Retained) (hot : Hot) (cursor : ℕ) (groups : Option GroupIndex) : Type 0 where
  pub hot_right : AreMembersIn r hot cursor
  pub groups_right : IfSome groups (IsIndexIn r)

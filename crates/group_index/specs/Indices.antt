-- What the group index tells of the revisions from its base to its cursor (Zanzibar, section 3.2.4).
use Rattle.std.specs.Prelude.{ℕ, ◌≡◌, ◌≤◌, List}
use Rattle.names.specs.declared.node.Node.{Node}
use Rattle.meaning.specs.Snap.{Snap}
use Rattle.delta.specs.Layers.{IsLayerOf, KeepsAt}
use Rattle.direct.specs.Revisions.{IsDirectOf}
use Rattle.group_index.specs.declared.index.GroupIndex.{GroupIndex}
use Rattle.group_index.specs.declared.at.At.{At}

-- the first revision that is told of, and the last one
abbrev pub base_of : GroupIndex → ℕ
base_of index = index.layer.base

abbrev pub cursor_of : GroupIndex → ℕ
cursor_of index = index.layer.cursor

-- the groups that have a number, each at its number
abbrev pub nodes_of : At → List Node
nodes_of at = at.index.now.layer.nodes

-- the index is that of the snapshots from its base to its cursor
pub record IsGroupIndexOf (index : GroupIndex) (snaps : ℕ → Snap) : Type 0 where
  pub closures : IsLayerOf index.layer snaps
  pub direct : IsDirectOf index.direct snaps

-- the revision is one of them, and holds the snapshot
pub record TellsOf (at : At) (S : Snap) : Type 0 where
  pub snaps : ℕ → Snap
  pub index_of : IsGroupIndexOf at.index.now snaps
  pub from : base_of at.index.now ≤ at.rev
  pub to : at.rev ≤ cursor_of at.index.now
  pub holds : snaps at.rev ≡ S

-- to which groups the group leads at the revision is kept, and need not be found
abbrev pub IsKept : At → Node → Type 0
IsKept at g = (ids : List ℕ) × KeepsAt at.index.now.layer at.rev g ids

-- A group index that was made elsewhere.
use Rattle.std.specs.Prelude.{◌≡◌, ℕ}
use Rattle.meaning.specs.Snap.{Snap}
use Rattle.group_index.specs.Indices.{IsGroupIndexOf, base_of, cursor_of}
use Rattle.group_index.specs.declared.index.GroupIndex.{GroupIndex}
use Rattle.rows.specs.Retained.{Retained, IsRetained, snap_at}
use Rattle.shown.specs.declared.index_at.IndexAt.{IndexAt}

-- the index is that of one revision, which has this snapshot
pub record IsMadeOf (S : Snap) (rev : ℕ) (index : GroupIndex) : Type 0 where
  pub index_of : (snaps : ℕ → Snap) → snaps rev ≡ S → IsGroupIndexOf index snaps
  pub base : base_of index ≡ rev
  pub cursor : cursor_of index ≡ rev

-- so it is, of a revision that is retained
pub record IsReady (r : Retained) (ready : IndexAt) : Type 0 where
  pub retained : IsRetained r ready.rev
  pub made : IsMadeOf (snap_at r ready.rev) ready.rev ready.index

-- Snapshots that sessions copied.
use Rattle.std.specs.Prelude.{◌≡◌, ℕ}
use Rattle.logbook.specs.Pages.{Book}
use Rattle.meaning.specs.Snap.{Snap}
use Rattle.rows.specs.Retained.{IsRetained, snap_at}
use Rattle.group_index.specs.declared.index.GroupIndex.{GroupIndex}
use Rattle.shown.specs.Adopting.{IsMadeOf}
use Rattle.shown.specs.Standing.{standing}
use Rattle.published.specs.Judged.{AreJudged}
use Rattle.published.specs.Known.{Known}

-- the steps that a copy of a snapshot was told by, its revision, and the snapshot
pub record SnapCopy : Type 0 where
  pub of : Known
  pub rev : ℕ
  pub snap : Snap

-- steps of the book, which were judged, retain the revision
pub record RetainIn (book : Book) (known : Known) (rev : ℕ) : Type 0 where
  pub of_book : known.book ≡ book
  pub judged : AreJudged known.steps
  pub retained : IsRetained (standing known.steps).kept rev

-- the copy is of what steps of the book retain at its revision
pub record IsCopyIn (book : Book) (copy : SnapCopy) : Type 0 where
  pub kept : RetainIn book copy.of copy.rev
  pub same : copy.snap ≡ snap_at (standing copy.of.steps).kept copy.rev

-- an index that was made of that
pub record IsMadeIn (book : Book) (known : Known) (rev : ℕ) (index : GroupIndex) : Type 0 where
  pub kept : RetainIn book known rev
  pub made : IsMadeOf (snap_at (standing known.steps).kept rev) rev index

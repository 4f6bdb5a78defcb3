-- What the process leaves at its end.
use Rattle.std.specs.Prelude.{ℕ, zero, suc, ◌≡◌, List, [], ◌∷◌, Option, Some, None, Result, Ok, Err, IsOkAnd, false, true}
use Rattle.sqlite_disk.specs.declared.Disk as disk
use Rattle.sqlite_disk.specs.declared.Files.{Files}
use Rattle.sqlite_wal.specs.Recovery.{Image}
use Rattle.sqlite_wal.specs.Files.{outcomes}
use Rattle.sqlite_wal.specs.Reads.{AreClean}
use Rattle.sqlite_trees.specs.Tree.{Trees}
use Rattle.sqlite_trees.specs.View.{IsClean}
use Rattle.sqlite_store.specs.FileStore.{view, recovers}
use Rattle.sqlite_store.specs.declared.store.FileStore.{FileStore}
use Rattle.sqlite.specs.Held.{Held}
use Rattle.sqlite.specs.Files.{over_files}
use Rattle.rows.specs.Retained.{Retained}
use Rattle.store.specs.History.{KeepsHistory, LeavesHistory}
use Rattle.tracked_io.specs.Tracking.{TrackedReading, TrackedWriting}
use Rattle.tracked_io.specs.Wrote.{nothing_taken}
use Rattle.command_line.specs.Faults.{fault_status}
use Rattle.command_line.specs.declared.fault.Fault.{Fault}
use Rattle.runs.specs.Files.{Remains, HoldsOneOf, HoldsAmong}
use Rattle.program.specs.Telling.{Tells}

-- a writer that is known to hold this, has not failed, has taken nothing, and holds nothing back
abbrev pub unbroken : {W : Type 0} → Option (List ℕ) → W → TrackedWriting W
unbroken known w = record { inner = w; failed = false; flushed = true; taken = nothing_taken known }

-- the writer, where there is one, with nothing written
abbrev pub untouched : {W F : Type 0} → (W → Option (List ℕ)) → Result W F → Option (TrackedWriting W)
untouched contents (Ok output) = Some (unbroken (contents output) output)
untouched contents (Err e) = None

-- what closing a connection left: the two files, or a store, where the log could not be copied
abbrev pub Remnant : {D : Type 0} → disk.Ghosts D → Type 0
Remnant {D} g = Result (Files D) (FileStore D g)

-- Two files hold the history that the connection kept, also without the log, and leave no history but one that it could leave: as
-- far as the device has returned what was written.
pub record HoldWhatWasKept {D : Type 0} (g : disk.Ghosts D) (conn : Held (FileStore D g)) (files : Files D) : Type 0 where
  pub kept : AreClean g files.log files.db → (r : Retained) → KeepsHistory over_files conn r
      → (left : Image) → outcomes g files.log files.db left → HoldsOneOf left (r ∷ []) × HoldsOneOf (record left { log = [] }) (r ∷ [])
  pub left : AreClean g files.log files.db → (rs : List Retained) → LeavesHistory over_files conn rs
      → (left : Image) → outcomes g files.log files.db left → HoldsOneOf left rs

-- a connection was closed, and this is left
abbrev pub IsClosed : {D : Type 0} {g : disk.Ghosts D} → Held (FileStore D g) → Remnant g → Type 0
IsClosed {D} {g} conn (Ok files) = HoldWhatWasKept g conn files
IsClosed conn (Err store) = IsClean (view store) → (rs : List Retained) → LeavesHistory over_files conn rs → (trees : Trees) → recovers store trees → HoldsAmong trees rs

-- What the work left was closed where it ended well, and else let be.
abbrev pub EndsWith : {D : Type 0} {g : disk.Ghosts D} → ℕ → Remains g → Result (Remnant g) (Remains g) → Type 0
EndsWith zero (Ok conn) end = IsOkAnd end (IsClosed conn)
EndsWith zero (Err left) end = end ≡ Err (Err left)
EndsWith (suc status) left end = end ≡ Err left

-- For this fault, which was told, nothing was begun: nothing was read or written, and of files nothing is handed back.
pub record IsUnbegun {R W E D F : Type 0} {g : disk.Ghosts D} (contents : W → Option (List ℕ)) (fault : Fault) (output : Result W F) (status : ℕ) (files : Result (Remnant g) (Remains g)) (writer : Option (TrackedWriting W))
    (reader reader_after : TrackedReading R) (errors errors_after : TrackedWriting E) : Type 0 where
  pub ends : status ≡ fault_status fault
  pub unread : reader_after ≡ reader
  pub no_files : files ≡ Err (Err None)
  pub unwritten : writer ≡ untouched contents output
  pub told : Tells errors errors_after fault

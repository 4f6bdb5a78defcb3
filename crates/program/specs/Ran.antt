-- What the program does of a task, and what it leaves.
use Rattle.std.specs.Prelude.{ℕ, ◌≡◌, ◌⊎◌, Bool, true, false, List, Option, Some, None, Err, IsOkAnd, IfOk, IsTrue, ⊤}
use Rattle.sqlite_disk.specs.declared.Disk as disk
use Rattle.sqlite_wal.specs.Recovery.{Image}
use Rattle.sqlite.specs.State.{HasCleanDisk}
use Rattle.sqlite.specs.Files.{file_state, over_files}
use Rattle.names.specs.declared.refusal.Refusal.{Refusal}
use Rattle.names.specs.declared.refusal.Refusal.TheVariants.{StoreFault}
use Rattle.rows.specs.Retained.{Retained, empty_store}
use Rattle.tables.specs.Device.{Lasts, sound_device}
use Rattle.tables.specs.Opening.{CannotOpen}
use Rattle.tables.specs.declared.tables.Tables as tables
use Rattle.desk.specs.Posts.{Posts}
use Rattle.store.specs.History.{device_below}
use Rattle.tracked_io.specs.Tracking.{TrackedReading, TrackedWriting, Reads, ReadsAll}
use Rattle.tracked_io.specs.Wrote.{Took, WroteSome}
use Rattle.command_line.specs.Faults.{fault_status, IsLineFault, IsFileFault}
use Rattle.command_line.specs.Report.{Reports}
use Rattle.command_line.specs.Words.{OnServe}
use Rattle.command_line.specs.declared.fault.Fault.{Fault}
use Rattle.command_line.specs.declared.fault.Fault.TheVariants.{Refused, CannotRead, CannotWrite}
use Rattle.command_line.specs.declared.words.Place.{Place}
use Rattle.command_line.specs.declared.words.Place.TheVariants.{Memory, New, There}
use Rattle.command_line.specs.declared.words.Task.{Task}
use Rattle.command_line.specs.declared.words.Task.TheVariants.{Run, Serve, Config}
use Rattle.runs.specs.Files.{Remains, IsFoundIn}
use Rattle.runs.specs.Runs.{ServedBy, PausedBy, CutBy, Ended}
use Rattle.runs.specs.Over.{over, listed, BeginsIn, EndedOver, CannotBeginIn, LeavesRefusedIn, IsDeservedIn}
use Rattle.program.specs.Listening.{Announced, StoppedServing}

-- ---- a run at a place

-- which lines of the input were answered
pub data Extent : Type 0 where
  -- each
  all_lines : Extent
  -- those that end in what was read
  whole_lines : Extent
  -- some first ones, and a beginning of the answers was written
  first_lines : Extent

-- so many were, by a desk, and none was held back while more was read for
abbrev pub AnsweredBy : {T R W : Type 0} → Extent → tables.Ghosts T → TrackedReading R × TrackedWriting W → List ℕ → TrackedReading R × TrackedWriting W → Posts T → Posts T → Type 0
AnsweredBy all_lines g old input new = ServedBy g old input new
AnsweredBy whole_lines g old input new = PausedBy g old input new
AnsweredBy first_lines g old input new = CutBy g old input new

-- this was read, to its end where all was
abbrev pub ReadBy : {R : Type 0} → Extent → (R → Option (List ℕ)) → TrackedReading R → TrackedReading R → List ℕ → Type 0
ReadBy all_lines remaining old new input = ReadsAll remaining old new input
ReadBy whole_lines remaining old new input = Reads remaining old new input
ReadBy first_lines remaining old new input = Reads remaining old new input

-- where a run cannot begin: its file holds another thing than is asked for
abbrev pub CannotBeginAt : Image → Place → Type 0
CannotBeginAt image (Memory number) = ⊥
CannotBeginAt image (New file number) = CannotBeginIn image (Some number)
CannotBeginAt image (There file) = CannotBeginIn image None

-- Answered were lines of the input, by a desk over the tables of the place: in memory those of an empty store; in a file
-- those of a new store, or of the history that the file held. A file's connection is left, with the history that was posted.
abbrev pub EndedAt : {R W D : Type 0} {g : disk.Ghosts D} → Image → Extent → Place → TrackedReading R × TrackedWriting W → List ℕ → TrackedReading R × TrackedWriting W → Remains g → Type 0
EndedAt image extent (Memory number) old input new left = (left ≡ Err None) × (back : Retained) × Ended listed (empty_store number) input (AnsweredBy extent listed old input new) back
EndedAt image extent (New file number) old input new left = IsOkAnd left (EndedOver over_files (BeginsIn image (Some number)) input (AnsweredBy extent (over over_files) old input new))
EndedAt image extent (There file) old input new left = IsOkAnd left (EndedOver over_files (BeginsIn image None) input (AnsweredBy extent (over over_files) old input new))

-- So it was at this place, for what was read. The file did not hold another thing than was asked for, as far as the device has
-- returned what was written.
pub record RanAt {R W D : Type 0} {g : disk.Ghosts D} (image : Image) (extent : Extent) (place : Place) (remaining : R → Option (List ℕ))
    (old new : TrackedReading R × TrackedWriting W) (left : Remains g) : Type 0 where
  pub input : List ℕ
  pub read : ReadBy extent remaining old.0 new.0 input
  pub ended : EndedAt image extent place old input new left
  pub began : IfOk left (λ conn. HasCleanDisk (file_state conn) → ¬ (CannotBeginAt image place))
  pub lasts : IfOk left (λ conn. Lasts sound_device (device_below over_files conn))

-- ---- a run that was refused

-- what it leaves of its place
abbrev pub LeavesAt : {D : Type 0} {g : disk.Ghosts D} → Image → Place → Remains g → Type 0
LeavesAt image (Memory number) left = left ≡ Err None
LeavesAt image (New file number) left = LeavesRefusedIn image (Some number) left
LeavesAt image (There file) left = LeavesRefusedIn image None left

-- why it is told as a fault of the store; tables in memory have none
abbrev pub IsDeservedAt : {D : Type 0} {g : disk.Ghosts D} → Image → Place → Remains g → Type 0
IsDeservedAt image (Memory number) left = ⊥
IsDeservedAt image (New file number) left = IsDeservedIn image (Some number) left
IsDeservedAt image (There file) left = IsDeservedIn image None left

-- A run at this place was refused. A file that holds another thing than is asked for is left as it was, as far as the device
-- has returned what was written.
pub record RefusedAt {D : Type 0} {g : disk.Ghosts D} (image : Image) (place : Place) (fault : Fault) (left : Remains g) : Type 0 where
  pub leaves : LeavesAt image place left
  pub deserved : fault ≡ Refused StoreFault → IsDeservedAt image place left
  pub taken : CannotBeginAt image place → IfOk left (λ conn. HasCleanDisk (file_state conn) → (fault ≡ Refused StoreFault) × IsFoundIn image (file_state conn))
  pub lasts : IfOk left (λ conn. Lasts sound_device (device_below over_files conn))

-- Why a run ended early: the input could not be read on, and no write had failed; the output could not be written on, and no read
-- had failed; or nothing was read or written, since it was refused, for want of memory or for a fault of the store.
pub data RunStopped {R W D : Type 0} {g : disk.Ghosts D} (image : Image) (place : Place) (fault : Fault) (remaining : R → Option (List ℕ))
    (old new : TrackedReading R × TrackedWriting W) (left : Remains g) : Type 0 where
  input_failed : fault ≡ CannotRead → new.0.failed ≡ true → new.1.failed ≡ false → RanAt image whole_lines place remaining old new left → RunStopped image place fault remaining old new left
  output_failed : fault ≡ CannotWrite → new.0.failed ≡ false → new.1.failed ≡ true → RanAt image first_lines place remaining old new left → RunStopped image place fault remaining old new left
  run_refused : (why : Refusal) → fault ≡ Refused why → CannotOpen why → new.0 ≡ old.0 → new.1 ≡ old.1 → RefusedAt image place fault left → RunStopped image place fault remaining old new left

-- ---- a report

-- a report of some bytes was written
abbrev pub Reported : {W : Type 0} → Bool → TrackedWriting W → TrackedWriting W → Type 0
Reported accepted old new = (bytes : List ℕ) × (text : List ℕ) × Reports bytes accepted text × Took old.taken new.taken text

-- a beginning of one was
abbrev pub BeganReport : {W : Type 0} → TrackedWriting W → TrackedWriting W → Type 0
BeganReport old new = (bytes : List ℕ) × (accepted : Bool) × (text : List ℕ) × Reports bytes accepted text × WroteSome old.taken new.taken text

-- For this fault it was not written: a beginning of it was, where the writer failed; or nothing was, since the file could not be
-- read, or for want of memory.
abbrev pub StoppedReport : {W : Type 0} → Fault → TrackedWriting W → TrackedWriting W → Type 0
StoppedReport fault old new = ((fault ≡ CannotWrite) × (new.failed ≡ true) × BeganReport old new) ⊎ (IsFileFault fault × (new ≡ old))

-- ---- any task

-- neither failed, and all that was written was handed on
abbrev pub AreWhole : {R W : Type 0} → TrackedReading R → TrackedWriting W → Type 0
AreWhole reader writer = (reader.failed ≡ false) × (writer.failed ≡ false) × (writer.flushed ≡ true)

-- the task is a report
abbrev pub IsReport : Task → Type 0
IsReport (Config file) = ⊤
IsReport _ = ⊥

-- The task was done: all that was there was read, each line answered, and the answers handed on; or the levels of a valid
-- configuration were printed; or the program listened, and said where. Only a run leaves a file.
abbrev pub DoneOf : {R W D : Type 0} {g : disk.Ghosts D} → Image → Task → (R → Option (List ℕ)) → TrackedReading R × TrackedWriting W → TrackedReading R × TrackedWriting W → Remains g → Type 0
DoneOf image (Run place) remaining old new left = RanAt image all_lines place remaining old new left
DoneOf image (Config file) remaining (reader, writer) (reader_after, writer_after) left = (reader_after ≡ reader) × Reported true writer writer_after × (left ≡ Err None)
DoneOf image (Serve place port workers) remaining (reader, writer) (reader_after, writer_after) left = (reader_after ≡ reader) × Announced port writer writer_after × (left ≡ Err None)

-- For this fault it was not done, or not to its end. Of a report, or of the line that says where the program listens, a beginning
-- was written where the writer failed, and else nothing; or it listened, and could make no worker. The fault is one that was met.
abbrev pub StoppedOf : {R W D : Type 0} {g : disk.Ghosts D} → Image → Task → Fault → (R → Option (List ℕ)) → TrackedReading R × TrackedWriting W → TrackedReading R × TrackedWriting W → Remains g → Type 0
StoppedOf image (Run place) fault remaining old new left = RunStopped image place fault remaining old new left
StoppedOf image (Config file) fault remaining (reader, writer) (reader_after, writer_after) left = (reader_after ≡ reader) × StoppedReport fault writer writer_after × (left ≡ Err None)
StoppedOf image (Serve place port workers) fault remaining (reader, writer) (reader_after, writer_after) left = (reader_after ≡ reader) × StoppedServing port fault writer writer_after × (left ≡ Err None)

-- ---- any words

-- a task was done of words that say so, whether they ask to serve or not
abbrev pub Obeyed : {R W D : Type 0} {g : disk.Ghosts D} → Image → Bool → (R → Option (List ℕ)) → TrackedReading R × TrackedWriting W → TrackedReading R × TrackedWriting W → Remains g → Type 0
Obeyed image serves remaining old new left = (task : Task) × OnServe task (IsTrue serves) × DoneOf image task remaining old new left

-- Why the program ends with 1: a task was stopped by a fault, which was told; a configuration is no valid one, which was reported
-- in whole and in silence; or there was no memory to read the words, which was told, and nothing was done.
pub data Stopped {R W D : Type 0} {g : disk.Ghosts D} (image : Image) (serves : Bool) (remaining : R → Option (List ℕ))
    (old new : TrackedReading R × TrackedWriting W) (left : Remains g) (tells : Fault → Type 0) (silence : Type 0) : Type 0 where
  task_stopped : (task : Task) (fault : Fault) → OnServe task (IsTrue serves) → fault_status fault ≡ 1 → StoppedOf image task fault remaining old new left → tells fault → Stopped image serves remaining old new left tells silence
  is_no_configuration : new.0 ≡ old.0 → Reported false old.1 new.1 → AreWhole new.0 new.1 → left ≡ Err None → silence → Stopped image serves remaining old new left tells silence
  words_unread : (fault : Fault) → IsLineFault fault → fault_status fault ≡ 1 → new.0 ≡ old.0 → new.1 ≡ old.1 → left ≡ Err None → tells fault → Stopped image serves remaining old new left tells silence

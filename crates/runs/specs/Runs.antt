-- What a run does over tables, and what it leaves of them.
use Rattle.std.specs.Prelude.{ℕ, ◌≡◌, ◌⊎◌, Bool, true, false, List, [], ◌∷◌, Some, Result, Err}
use Rattle.std.specs.List.{All}
use Rattle.names.specs.Calls.{call_of}
use Rattle.names.specs.declared.call.Call.{Call}
use Rattle.names.specs.declared.commit.Commit.TheVariants.{Config as ConfigCommit}
use Rattle.rows.specs.Retained.{Retained}
use Rattle.rows.specs.Loads.{retained_of}
use Rattle.rows.specs.declared.loaded.Loaded.{Loaded}
use Rattle.tables.specs.Device.{IsClean}
use Rattle.tables.specs.declared.tables.Tables.{Ghosts}
use Rattle.shown.specs.declared.step.Step.TheVariants.{Open}
use Rattle.desk.specs.TableChanges.{TableChange, Adds, Raises}
use Rattle.desk.specs.Posts.{Posts, Agrees}
use Rattle.desk.specs.Changes.{IsCommitOf}
use Rattle.desk.specs.declared.change.Change.{Change}
use Rattle.desk.specs.declared.change.Change.TheVariants.{Write, Config, Trim}
use Rattle.calls.specs.Beginning.{kept_by}
use Rattle.calls.specs.Changes.{AsksChange}
use Rattle.calls.specs.Rules.{DeskStep}
use Rattle.lines.specs.Text.{lines_of, word_of, body_of}
use Rattle.lines.specs.Served.{Served, Paused, Cut, PausedAtEachRead}
use Rattle.tracked_io.specs.Tracking.{TrackedReading, TrackedWriting}
use Rattle.command_line.specs.declared.fault.Fault.{Fault}
use Rattle.command_line.specs.declared.fault.Fault.TheVariants.{CannotRead, CannotWrite}

-- a desk that has just been opened on a history: all that it holds is shown
pub record IsOpened {T : Type 0} (loaded : Loaded) (desk : Posts T) : Type 0 where
  pub posted : desk.posted ≡ Open loaded ∷ []
  pub shown : desk.shown ≡ desk.posted
  pub works : desk.failed ≡ false

-- ---- what was asked for

-- what is stored for the change, if it is made
abbrev pub Stores : Change → TableChange → Type 0
Stores (Write write) (Adds commit) = IsCommitOf write.ops commit
Stores (Config config) stored = stored ≡ Adds (ConfigCommit config)
Stores (Trim floor) stored = stored ≡ Raises floor.rev
Stores change stored = ⊥

-- the call with this body asks for a change for which this is stored
abbrev pub AsksStored : Call → List ℕ → TableChange → Type 0
AsksStored call body stored = (change : Change) × AsksChange call body change × Stores change stored

-- the line asks for this to be stored
abbrev pub LineAsks : List ℕ → TableChange → Type 0
LineAsks line stored = (call : Call) × (call_of (word_of line) ≡ Some call) × AsksStored call (body_of line) stored

-- one of the lines does
abbrev pub IsAskedIn : List (List ℕ) → TableChange → Type 0
IsAskedIn [] stored = ⊥
IsAskedIn (line ∷ lines) stored = LineAsks line stored ⊎ IsAskedIn lines stored

-- ---- what was written

-- Each line of the input was answered, and the answers written. None was held back: at each read, the lines that had ended in what
-- was read before were answered, and the answers handed on.
pub record ServedBy {T R W : Type 0} (g : Ghosts T) (old : TrackedReading R × TrackedWriting W) (input : List ℕ) (new : TrackedReading R × TrackedWriting W) (first last : Posts T) : Type 0 where
  pub served : Served (DeskStep g) first old.1.taken input last new.1.taken
  pub each_read : PausedAtEachRead (DeskStep g) first old.1.taken old.0 new.0

-- the same of the lines that end in the input
pub record PausedBy {T R W : Type 0} (g : Ghosts T) (old : TrackedReading R × TrackedWriting W) (input : List ℕ) (new : TrackedReading R × TrackedWriting W) (first last : Posts T) : Type 0 where
  pub paused : Paused (DeskStep g) first old.1.taken input last new.1.taken
  pub each_read : PausedAtEachRead (DeskStep g) first old.1.taken old.0 new.0

-- the same of some first lines, of whose answers a beginning was written
pub record CutBy {T R W : Type 0} (g : Ghosts T) (old : TrackedReading R × TrackedWriting W) (input : List ℕ) (new : TrackedReading R × TrackedWriting W) (first last : Posts T) : Type 0 where
  pub cut : Cut (DeskStep g) first old.1.taken new.0.reads input last new.1.taken
  pub each_read : PausedAtEachRead (DeskStep g) first old.1.taken old.0 new.0

-- ---- what is left

-- A desk was opened on what the tables held, as far as the device has returned what was written: a history that they held,
-- and no other than each that they held. It did this for the input, and gave the tables back. They hold the history of the
-- posted steps; what is left of them holds it, perhaps with one change more that a line asked for.
pub record Ended {T : Type 0} (g : Ghosts T) (tables : T) (input : List ℕ) (Did : Posts T → Posts T → Type 0) (left : T) : Type 0 where
  pub loaded : Loaded
  pub first : Posts T
  pub last : Posts T
  pub opened : IsOpened loaded first
  pub found : IsClean (g.device left) → g.holds tables (retained_of loaded)
  pub same : (r : Retained) → g.holds tables r → IsClean (g.device left) → retained_of loaded ≡ r
  pub did : Did first last
  pub given : left ≡ last.tables
  pub agrees : Agrees g last.failed left (kept_by last)
  pub asked : All (IsAskedIn (lines_of input)) agrees.more

-- which results tell that the reader, or the writer, failed
abbrev pub is_read_fault : {A : Type 0} → Result A Fault → Bool
is_read_fault (Err CannotRead) = true
is_read_fault _ = false

abbrev pub is_write_fault : {A : Type 0} → Result A Fault → Bool
is_write_fault (Err CannotWrite) = true
is_write_fault _ = false

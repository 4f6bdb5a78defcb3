-- What a run does over a connection, and over two files.
use Rattle.std.specs.Prelude.{ℕ, ◌≡◌, ◌≢◌, ◌⊎◌, false, List, [], ◌∷◌, map, length, Option, Some, None, Ok, Err, ⊤}
use Rattle.std.specs.List.{All}
use Rattle.sqlite_disk.specs.declared.Disk as disk
use Rattle.sqlite_wal.specs.Recovery.{Image}
use Rattle.sqlite_store.specs.declared.store.FileStore.{FileStore}
use Rattle.sqlite.specs.Store.{Ghosts}
use Rattle.sqlite.specs.Tree.{Trees}
use Rattle.sqlite.specs.Effect.{Database}
use Rattle.sqlite.specs.State.{HasCleanDisk}
use Rattle.sqlite.specs.Held.{Held, state}
use Rattle.sqlite.specs.declared.error.Error.{Error}
use Rattle.sqlite.specs.Files.{file_state, over_files}
use Rattle.rows.specs.Retained.{Retained, empty_store}
use Rattle.rows.specs.Loads.{retained_of}
use Rattle.rows.specs.declared.loaded.Loaded.{Loaded}
use Rattle.tables.specs.Device.{HasFailed, IsClean, IsOpen, sound_device}
use Rattle.tables.specs.Leaving.{IsOneOf}
use Rattle.tables.specs.declared.tables.Tables as tables
use Rattle.shown.specs.declared.step.Step.{Step}
use Rattle.shown.specs.Standing.{standing, after_opening}
use Rattle.desk.specs.TableChanges.{TableChange, changed, CanChange}
use Rattle.desk.specs.Posts.{Posts}
use Rattle.lines.specs.Text.{lines_of}
use Rattle.sqlite_tables.specs.Format.{schema}
use Rattle.sqlite_tables.specs.Leaves.{IsBlank}
use Rattle.sqlite_tables.specs.Steps.{HasNone}
use Rattle.store.specs.History.{TreesHold, KeepsHistory, LeavesHistory, KeptBefore, device_below}
use Rattle.store.specs.StoreParts.{connection, faults}
use Rattle.store.specs.declared.store.Store.{Store}
use Rattle.runs.specs.Files.{ImageHolds, ImageShows, HoldsBase, AreTheirs, Remains, IsUnopened, IsRefusedFor}
use Rattle.calls.specs.Beginning.{kept_by}
use Rattle.runs.specs.Runs.{IsOpened, IsAskedIn}
use Rattle.runs.specs.Connections.{HasServed}

-- a store over a connection, as tables
abbrev pub over : {S : Type 0} (g : Ghosts S) → tables.Ghosts (Store S g)
over {S} g = record {
  holds = λ s r. KeepsHistory g (connection s) r;
  leaves = λ s rs. LeavesHistory g (connection s) rs;
  device = λ s. device_below g (connection s);
  count = λ s. faults s;
}

-- a list of commits in memory, as tables
abbrev pub listed : tables.Ghosts Retained
listed = record { holds = λ t r. t ≡ r; leaves = λ t rs. IsOneOf rs t; device = λ t. sound_device; count = λ t. 0 }

-- the history that a run begins with: that of a new store with this number, or one that the connection holds, and no other
-- than each that it holds
abbrev pub Begins : {S : Type 0} → Ghosts S → Held S → Option ℕ → Retained → Type 0
Begins g conn None r = KeepsHistory g conn r × ((held : Retained) → KeepsHistory g conn held → r ≡ held)
Begins g conn (Some number) r = r ≡ empty_store number

-- the same of two files
abbrev pub BeginsIn : Image → Option ℕ → Retained → Type 0
BeginsIn image None r = ImageShows image r × ((held : Retained) → ImageHolds image held → r ≡ held)
BeginsIn image (Some number) r = r ≡ empty_store number

-- A desk was opened on a history from which a run begins, and did this for the input. The connection that is left holds the
-- history of the posted steps; what is left of it holds that, perhaps with one change more that a line asked for.
pub record EndedOver {S : Type 0} (g : Ghosts S) (From : Retained → Type 0) (input : List ℕ) (Did : Posts (Store S g) → Posts (Store S g) → Type 0) (left : Held S) : Type 0 where
  pub loaded : Loaded
  pub first : Posts (Store S g)
  pub last : Posts (Store S g)
  pub opened : IsOpened loaded first
  pub begins : HasCleanDisk (state g left) → From (retained_of loaded)
  pub did : Did first last
  pub keeps : last.failed ≡ false → KeepsHistory g left (kept_by last)
  pub more : List TableChange
  pub follow : All (CanChange (kept_by last)) more
  pub asked : All (IsAskedIn (lines_of input)) more
  pub leaves : LeavesHistory g left (kept_by last ∷ map (changed (kept_by last)) more)

-- A desk was opened on a history from which a run begins, and has served no connection yet.
pub record OpenedOver {S : Type 0} (g : Ghosts S) (From : Retained → Type 0) (desk : Posts (Store S g)) : Type 0 where
  pub loaded : Loaded
  pub opened : IsOpened loaded desk
  pub begins : HasCleanDisk (state g (connection desk.tables)) → From (retained_of loaded)
  pub ready : HasServed (over g) desk [] desk

-- Tables over a connection. Where they hold a history and no other, it is one from which a run begins.
abbrev pub TablesOver : {S : Type 0} (g : Ghosts S) → (Retained → Type 0) → Store S g → Type 0
TablesOver g From tables = (r : Retained) → KeepsHistory g (connection tables) r → ((held : Retained) → KeepsHistory g (connection tables) held → r ≡ held) → From r

-- What a refusal leaves. Tables that were there hold and leave what they did, and hold nothing else. Of new ones a crash leaves nothing, or a new store.
abbrev pub LeavesRefused : {S : Type 0} → Ghosts S → Held S → Option ℕ → Held S → Type 0
LeavesRefused g conn None left = ((r : Retained) → KeepsHistory g conn r → KeepsHistory g left r) × ((rs : List Retained) → LeavesHistory g conn rs → LeavesHistory g left rs) × KeptBefore g conn left
LeavesRefused g conn (Some number) left = HasCleanDisk (state g left) → (trees : Trees) → (state g left).may_leave trees → (state g conn).may_leave trees ⊎ TreesHold trees (empty_store number)

-- Where a run cannot begin: there is a table already in which a new store is to be made, or the tables are not those of the format.
abbrev pub CannotBegin : {S : Type 0} → Ghosts S → Held S → Option ℕ → Type 0
CannotBegin g conn None = (state g conn).now.schema ≢ schema
CannotBegin g conn (Some number) = ¬ (IsBlank g conn)

-- why a fault is told: the device failed, or there is no history to be found
abbrev pub IsDeserved : {S : Type 0} → Ghosts S → Held S → Option ℕ → Held S → Type 0
IsDeserved g conn None left = HasFailed (device_below g conn) (device_below g left) ⊎ ((r : Retained) → IsClean (device_below g conn) → ¬ (KeepsHistory g conn r))
IsDeserved g conn (Some number) left = IsBlank g conn → HasFailed (device_below g conn) (device_below g left)

-- ---- over two files

-- the two files hold a database with no table, or the database file is empty
abbrev pub AreBlank : Image → Type 0
AreBlank image = (length image.db ≡ 0) ⊎ ((db : Database) × HoldsBase image db × HasNone db)

-- Where a run cannot begin: the files hold a table already in which a new store is to be made, or their tables are not those of
-- the format, or there are none.
abbrev pub CannotBeginIn : Image → Option ℕ → Type 0
CannotBeginIn image None = (length image.db ≡ 0) ⊎ ((db : Database) × HoldsBase image db × (db.schema ≢ schema))
CannotBeginIn image (Some number) = (db : Database) × HoldsBase image db × (¬ HasNone db)

-- What a refusal leaves of a connection over two files. The history that they held is held, and left, and one that is held is
-- one that they held; of new tables a crash leaves what was there, or a new store.
abbrev pub LeavesConnection : {D : Type 0} {g : disk.Ghosts D} → Image → Option ℕ → Held (FileStore D g) → Type 0
LeavesConnection image None conn = ((r : Retained) → ImageHolds image r → KeepsHistory over_files conn r × LeavesHistory over_files conn (r ∷ []))
    × ((r : Retained) → KeepsHistory over_files conn r → IsClean (device_below over_files conn) → IsOpen (device_below over_files conn) → ImageShows image r)
LeavesConnection image (Some number) conn = HasCleanDisk (file_state conn) → (trees : Trees) → (file_state conn).may_leave trees → AreTheirs image trees ⊎ TreesHold trees (empty_store number)

-- What a refusal leaves of two files: a connection; else, where they could not be opened, what `sqlite` says; else the system
-- did not give them.
abbrev pub LeavesRefusedIn : {D : Type 0} {g : disk.Ghosts D} → Image → Option ℕ → Remains g → Type 0
LeavesRefusedIn image store (Ok conn) = LeavesConnection image store conn
LeavesRefusedIn image store (Err (Some left)) = (error : Error) × IsUnopened image left error
LeavesRefusedIn image store (Err None) = ⊤

-- why a fault is told over a connection: the device failed, or the files hold no history
abbrev pub HasFailedOver : {D : Type 0} {g : disk.Ghosts D} → Image → Option ℕ → Held (FileStore D g) → Type 0
HasFailedOver image None conn = HasFailed sound_device (device_below over_files conn) ⊎ ((r : Retained) → IsClean (device_below over_files conn) → ¬ (ImageHolds image r))
HasFailedOver image (Some number) conn = AreBlank image → HasFailed sound_device (device_below over_files conn)

-- why it is told over two files; where the system does not give them, no contract knows why
abbrev pub IsDeservedIn : {D : Type 0} {g : disk.Ghosts D} → Image → Option ℕ → Remains g → Type 0
IsDeservedIn image store (Ok conn) = HasFailedOver image store conn
IsDeservedIn image store (Err (Some left)) = IsRefusedFor image left
IsDeservedIn image store (Err None) = ⊤

-- ---- two runs

-- A desk with these steps has just been opened on one of the histories: nothing is marked, nothing waits, and the cursors are
-- at the newest revision.
abbrev pub GoesOn : List Retained → List Step → Type 0
GoesOn rs posted = ∥ ((r : Retained) × IsOneOf rs r × (standing posted ≡ after_opening r)) ∥₁

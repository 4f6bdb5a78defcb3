-- What two files hold, between the runs of a program.
use Rattle.std.specs.Prelude.{◌≡◌, ◌⊎◌, List, length, Option, Result, IsTrue}
use Rattle.sqlite_disk.specs.declared.Disk.{Ghosts}
use Rattle.sqlite_disk.specs.declared.Files.{Files}
use Rattle.sqlite_disk.specs.Disk.{MoreFaults}
use Rattle.sqlite_wal.specs.Recovery.{Image}
use Rattle.sqlite_wal.specs.Files.{outcomes}
use Rattle.sqlite_store.specs.declared.store.FileStore.{FileStore}
use Rattle.sqlite.specs.Tree.{Trees}
use Rattle.sqlite.specs.Effect.{Database, IsDatabase}
use Rattle.sqlite.specs.State.{State}
use Rattle.sqlite.specs.Held.{Held}
use Rattle.sqlite.specs.declared.error.Error.{Error}
use Rattle.sqlite.specs.declared.file.Leftover.{Leftover}
use Rattle.sqlite.specs.Files.{HoldsDatabase, AreFoundIn, IsNothing, image_of, faults_of, faults_left, IsFullLeft, IsCleanLeft, FailsToOpenFiles, LeavesFiles, over_files}
use Rattle.sqlite_tables.specs.Steps.{HasNone}
use Rattle.store.specs.History.{TreesHold, KeepsHistory}
use Rattle.rows.specs.Retained.{Retained}
use Rattle.tables.specs.Leaving.{IsOneOf}

-- the trees hold one of these histories
abbrev pub HoldsAmong : Trees → List Retained → Type 0
HoldsAmong trees rs = (r : Retained) × IsOneOf rs r × TreesHold trees r

-- the database file and its log hold the history: any opening of them finds it
abbrev pub ImageHolds : Image → Retained → Type 0
ImageHolds image r = (trees : Trees) × HoldsDatabase image trees × TreesHold trees r

-- these trees are what any opening of the two files finds
pub record AreTheirs (image : Image) (trees : Trees) : Type 0 where
  pub holds : (held : Trees) → HoldsDatabase image held → trees ≡ held
  pub reads : AreFoundIn image trees

-- what any opening of the two files finds holds the history
abbrev pub ImageShows : Image → Retained → Type 0
ImageShows image r = (trees : Trees) × AreTheirs image trees × TreesHold trees r

-- the two files hold one of these histories
abbrev pub HoldsOneOf : Image → List Retained → Type 0
HoldsOneOf image rs = ∥ ((r : Retained) × IsOneOf rs r × ImageHolds image r) ∥₁

-- the history that the two files held is the one that the connection keeps
abbrev pub FindsHistories : {D : Type 0} {g : Ghosts D} → Image → Held (FileStore D g) → Type 0
FindsHistories image conn = (r : Retained) → ImageHolds image r → KeepsHistory over_files conn r

-- what is left of two files: a connection over them; or, where they could not be opened, what was left of them then; or
-- nothing, where the system did not give them
abbrev pub Remains : {D : Type 0} → Ghosts D → Type 0
Remains {D} g = Result (Held (FileStore D g)) (Option (Leftover D g))

-- ---- opening them

-- the two files hold this database
abbrev pub HoldsBase : Image → Database → Type 0
HoldsBase image db = HoldsDatabase image db.trees × IsDatabase db

-- A connection that was just opened over two files is open, and sees their database, which a crash leaves. An empty file gives
-- one with no table.
pub record IsFoundIn (image : Image) (s : State) : Type 0 where
  pub is_open : IsTrue s.is_open
  pub settled : s.committed ≡ s.now
  pub sees : (db : Database) → HoldsBase image db → s.now ≡ db
  pub empty : length image.db ≡ 0 → HasNone s.now
  pub theirs : AreTheirs image s.now.trees
  pub leaves : (trees : Trees) → s.may_leave trees → trees ≡ s.now.trees

-- two files with these contents, on which no call was made
pub record AreGiven {D : Type 0} (g : Ghosts D) (image : Image) (files : Files D) : Type 0 where
  pub same : image_of g files ≡ image
  pub settled : (left : Image) → outcomes g files.log files.db left → left ≡ image
  pub unfailed : faults_of g files ≡ 0

-- Files with these contents could not be opened, for this error, and this is left of them: what `sqlite` says of the error
-- and of what a crash leaves, as far as the device has returned what was written.
pub record IsUnopened {D : Type 0} {g : Ghosts D} (image : Image) (left : Leftover D g) (error : Error) : Type 0 where
  pub files : Files D
  pub given : AreGiven g image files
  pub cause : IsCleanLeft left → FailsToOpenFiles files left error
  pub leaves : IsCleanLeft left → LeavesFiles files left

-- why a fault is told of files that could not be opened: they hold no database and more than nothing, the device failed, or
-- they are longer than a file of the format can be
abbrev pub IsRefusedFor : {D : Type 0} {g : Ghosts D} → Image → Leftover D g → Type 0
IsRefusedFor image left = IsCleanLeft left → (¬ (((held : Trees) × HoldsDatabase image held) ⊎ IsNothing image)) ⊎ (MoreFaults 0 (faults_left left) ⊎ IsFullLeft left)

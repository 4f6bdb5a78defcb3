-- Why a call is refused.
use Rattle.std.specs.Prelude.{◌≡◌, ◌≢◌, ◌≤◌, ◌<◌, ◌^◌, ◌+◌, ◌-◌, ◌*◌, ℕ, List, map, length, None, IsTrue, Result, IfErr}
use Rattle.std.specs.List.{AllByRecursion, IsDistinct}
use Rattle.std.specs.Borrow.{MutBor}
use Rattle.sqlite_disk.specs.Disk.{MoreFaults}
use Rattle.sqlite.specs.Store.{Ghosts}
use Rattle.sqlite.specs.Effect.{Database, IsDatabase}
use Rattle.sqlite.specs.State.{HasCleanDisk, State}
use Rattle.sqlite.specs.Held.{Held, state}
use Rattle.sqlite.specs.declared.error.Error.{Error}
use Rattle.sqlite.specs.declared.error.Error.TheVariants.{SqliteFailure}
use Rattle.sqlite.specs.declared.error.ErrorCode.TheVariants.{OutOfMemory}
use Rattle.sqlite_tables.specs.declared.stored.StoredEvent.{StoredEvent}
use Rattle.sqlite_tables.specs.Tables.{Span, ConfigRow, Contents, Holds, same_tuple}
use Rattle.sqlite_tables.specs.Numbered.{AreNumbered, AreNumberedTo, BeganBefore, IsUpTo, IsShort}
use Rattle.sqlite_tables.specs.Stored.{span_between}

-- it is open, and a statement may take as many steps as it needs
pub record IsReady (s : State) : Type 0 where
  pub is_open : IsTrue s.is_open
  pub unlimited : s.step_limit ≡ None

-- the device failed between the two, where it was ready and its tables fitted
abbrev pub HasFailed : State → State → (Database → Type 0) → Type 0
HasFailed old new Fits = IsReady old → Fits old.now → MoreFaults old.faults new.faults

-- what is refused for anything but memory is refused by the device
abbrev pub IsCaused : {S A : Type 0} → Ghosts S → Held S → Held S → Result A Error → (Database → Type 0) → Type 0
IsCaused g old new result Fits = HasCleanDisk (state g new) → IfErr result (λ e. e ≢ SqliteFailure OutOfMemory → HasFailed (state g old) (state g new) Fits)

-- so it is inside a transaction
abbrev pub IsCausedInside : {S A : Type 0} → Ghosts S → MutBor (Held S) → MutBor (Held S) → Result A Error → (Database → Type 0) → Type 0
IsCausedInside g old new result Fits = IsTrue (state g old.now).in_transaction → IsCaused g old.now new.now result Fits

-- ---- what tables fit

-- they hold contents of revisions below this one
pub record IsBefore (rev : ℕ) (db : Database) : Type 0 where
  pub sound : IsDatabase db
  pub contents : Contents
  pub holds : Holds db contents
  pub up_to : IsUpTo (rev - 1) contents
  pub numbered : AreNumbered (rev - 1) db.trees

-- the tuples of the events, as spans that begin at the revision
abbrev pub spans_of : ℕ → List StoredEvent → List Span
spans_of rev = map (λ e. span_between e.tuple rev 0)

-- and no tuple of the events comes twice, nor is longer than names and ids may be
pub record CanTake (events : List StoredEvent) (rev : ℕ) (db : Database) : Type 0 where
  pub before : IsBefore rev db
  pub distinct : IsDistinct same_tuple (spans_of rev events)
  pub short : AllByRecursion IsShort (spans_of rev events)

-- and the text of the configuration is not too long
pub record CanConfigure (text : List ℕ) (rev : ℕ) (db : Database) : Type 0 where
  pub before : IsBefore rev db
  pub short : length text ≤ 65536

-- ---- what the tables of one statement fit

-- a database that holds the contents, under rowids up to this one
pub record IsStore (h : Contents) (top : ℕ) (db : Database) : Type 0 where
  pub sound : IsDatabase db
  pub holds : Holds db h
  pub numbered : AreNumberedTo top db.trees

-- the value of the key can be written
pub record CanSet (key : List ℕ) (db : Database) : Type 0 where
  pub contents : Contents
  pub top : ℕ
  pub store : IsStore contents top db
  pub short : length key ≤ 10 ^ 8

-- the open span of the tuple can end at the revision
pub record CanClose (tuple : Span) (rev : ℕ) (db : Database) : Type 0 where
  pub contents : Contents
  pub top : ℕ
  pub fits : top < 2 ^ 63
  pub store : IsStore contents top db
  pub before : BeganBefore tuple rev contents
  pub short : IsShort tuple

-- a span of the tuple can begin at the revision under the rowid
pub record CanBegin (tuple : Span) (rev rowid : ℕ) (db : Database) : Type 0 where
  pub contents : Contents
  pub top : ℕ
  pub above : top < rowid
  pub store : IsStore contents top db
  pub positive : 0 < rev
  pub before : BeganBefore tuple rev contents
  pub short : IsShort tuple

-- the configuration can be added
pub record CanAdd (config : ConfigRow) (db : Database) : Type 0 where
  pub contents : Contents
  pub top : ℕ
  pub store : IsStore contents top db
  pub newest : ℕ
  pub up_to : IsUpTo newest contents
  pub later : newest < config.rev
  pub short : length config.text ≤ 10 ^ 8

-- rows can be taken out, and values of the state be written
pub record CanDrop (db : Database) : Type 0 where
  pub contents : Contents
  pub top : ℕ
  pub store : IsStore contents top db

-- the event at this place of the commit can be done
pub record CanApply (event : StoredEvent) (rev at : ℕ) (db : Database) : Type 0 where
  pub contents : Contents
  pub store : IsStore contents (256 * (rev - 1) + at) db
  pub before : BeganBefore (span_between event.tuple rev 0) rev contents
  pub short : IsShort (span_between event.tuple rev 0)

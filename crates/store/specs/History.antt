-- The history that a connection's tables hold, and what is left of it where the process ends or crashes.
use Rattle.std.specs.Prelude.{◌≡◌, ◌⊎◌, ℕ, List, Result, Err, IfOk, IsTrue, OnOk}
use Rattle.sqlite.specs.Store.{Ghosts}
use Rattle.sqlite.specs.Tree.{Trees}
use Rattle.sqlite.specs.State.{State, HasCleanDisk, Survives}
use Rattle.sqlite.specs.Held.{Held, state}
use Rattle.sqlite.specs.View.{doubt}
use Rattle.sqlite.specs.Effect.{IsDatabase}
use Rattle.rows.specs.Retained.{Retained, empty_store, newest}
use Rattle.rows.specs.Loads.{retained_of}
use Rattle.rows.specs.declared.loaded.Loaded.{Loaded}
use Rattle.tables.specs.Device.{Device, HasFailed, IsClean, IsOpen}
use Rattle.tables.specs.Leaving.{IsOneOf}
use Rattle.tables.specs.Changing.{IsChangeOf, with_change}
use Rattle.tables.specs.declared.change.TableChange.{TableChange}
use Rattle.tables.specs.declared.tables.TablesError.{TablesError}
use Rattle.tables.specs.declared.tables.TablesError.TheVariants as refusals
use Rattle.sqlite_tables.specs.Format.{schema}
use Rattle.sqlite_tables.specs.Numbered.{AreNumbered}
use Rattle.sqlite_tables.specs.Tables.{Contents, Holds}
use Rattle.sqlite_tables.specs.Leaves.{IsBlank}
use Rattle.store.specs.Written.{IsHistory}

-- trees that hold a history of the format
pub record TreesHold (trees : Trees) (r : Retained) : Type 0 where
  pub sound : IsDatabase (record { schema = schema; trees = trees })
  pub contents : Contents
  pub holds : Holds (record { schema = schema; trees = trees }) contents
  pub history : IsHistory contents r
  -- no span's rowid is above those of the newest revision
  pub numbered : AreNumbered (newest r) trees

-- all that is seen is committed, and it is the history in tables of the format
pub record HasCommitted (s : State) (r : Retained) : Type 0 where
  pub committed : s.committed ≡ s.now
  pub schema_is : s.now.schema ≡ schema
  pub held : TreesHold s.now.trees r

-- so it is while the connection is open, as far as the device has returned what was written
abbrev pub KeepsHistory : {S : Type 0} → Ghosts S → Held S → Retained → Type 0
KeepsHistory g c r = HasCleanDisk (state g c) → IsTrue (state g c).is_open → HasCommitted (state g c) r

-- if the process ends or crashes now, what is left holds one of these
abbrev pub LeavesHistory : {S : Type 0} → Ghosts S → Held S → List Retained → Type 0
LeavesHistory g c rs = HasCleanDisk (state g c) → (trees : Trees) → (state g c).may_leave trees → (r : Retained) × IsOneOf rs r × TreesHold trees r

-- the device below a connection
abbrev pub device_of : State → Device
device_of s = record { faults = s.faults; doubt = doubt s.is_clean; is_open = s.is_open }

abbrev pub device_below : {S : Type 0} → Ghosts S → Held S → Device
device_below g c = device_of (state g c)

-- what an open connection sees is what it has committed
abbrev pub IsSettled : {S : Type 0} → Ghosts S → Held S → Type 0
IsSettled g c = IsTrue (state g c).is_open → (state g c).now ≡ (state g c).committed

-- ---- one call

-- nothing is forgotten, and a crash leaves what it left before
abbrev pub LeavesAlone : {S : Type 0} → Ghosts S → Held S → Held S → Type 0
LeavesAlone g old new = Survives (state g old) (state g new) (λ _. ⊥)

-- what was held is held, refused or not
abbrev pub KeepsOn : {S : Type 0} → Ghosts S → Held S → Held S → Type 0
KeepsOn g old new = (r : Retained) → KeepsHistory g old r → KeepsHistory g new r

-- ---- creation

-- nothing is forgotten, and a crash leaves what it left before, or over a blank database a store with this number and no commit
abbrev pub LeavesAtMostNew : {S : Type 0} → Ghosts S → Held S → Held S → ℕ → Type 0
LeavesAtMostNew g old new number = Survives (state g old) (state g new) (λ trees. IsBlank g old × TreesHold trees (empty_store number))

-- over a blank database that is open it is a fault only where the device failed
abbrev pub IsFaultOfDevice : {S : Type 0} → Ghosts S → Held S → Held S → TablesError → Type 0
IsFaultOfDevice g old new why = why ≡ refusals.Fault → IsTrue (state g old).is_open → IsBlank g old → HasFailed (device_below g old) (device_below g new)

-- ---- loading

-- what was loaded is the history that they held
abbrev pub FindsHistory : {S : Type 0} → Ghosts S → Held S → Held S → Result Loaded TablesError → Type 0
FindsHistory g old new result = (r : Retained) → KeepsHistory g old r → HasCleanDisk (state g new) → IfOk result (λ l. retained_of l ≡ r)

-- what an open connection keeps then, it kept before, loaded or refused: tables that held no history hold none
abbrev pub KeptBefore : {S : Type 0} → Ghosts S → Held S → Held S → Type 0
KeptBefore g old new = (r : Retained) → KeepsHistory g new r → IsClean (device_below g new) → IsOpen (device_below g new) → KeepsHistory g old r

-- it is a fault only where the device failed, or where they hold no history
abbrev pub HasNoneOrFailed : {S : Type 0} → Ghosts S → Held S → Held S → Result Loaded TablesError → Type 0
HasNoneOrFailed g old new result = result ≡ Err refusals.Fault → IsOpen (device_below g old)
    → HasFailed (device_below g old) (device_below g new) ⊎ ((r : Retained) → IsClean (device_below g old) → ¬ (KeepsHistory g old r))

-- ---- one change

-- after the change they hold the history with it, where it is one of what they held
abbrev pub Changes : {S A : Type 0} → Ghosts S → Held S → Held S → TableChange → Result A TablesError → Type 0
Changes g old new change result = (r : Retained) → KeepsHistory g old r → IsChangeOf r change → OnOk result (KeepsHistory g new (with_change r change))

-- such trees hold the history with the change
abbrev pub HoldChanged : {S : Type 0} → Ghosts S → Held S → TableChange → Trees → Type 0
HoldChanged g old change trees = (r : Retained) → KeepsHistory g old r → IsChangeOf r change → TreesHold trees (with_change r change)

-- nothing is forgotten, and a crash leaves what it left before, or the history with the change
abbrev pub LeavesChanged : {S : Type 0} → Ghosts S → Held S → Held S → TableChange → Type 0
LeavesChanged g old new change = Survives (state g old) (state g new) (HoldChanged g old change)

-- it is a fault only where the device failed
abbrev pub HasFailedIf : {S A : Type 0} → Ghosts S → Held S → Held S → Result A TablesError → Type 0
HasFailedIf g old new result = result ≡ Err refusals.Fault → IsOpen (device_below g old) → HasFailed (device_below g old) (device_below g new)

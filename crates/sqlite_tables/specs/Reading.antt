-- What a call that only reads finds, and leaves.
use Rattle.std.specs.Prelude.{◌≡◌, ◌≢◌, ◌<◌, ◌≤◌, ◌^◌, ℕ, List, length, Result, IfErr, IfOk, IsUtf8}
use Rattle.std.specs.List.{AllByRecursion}
use Rattle.sqlite.specs.Order.{Row}
use Rattle.sqlite.specs.Effect.{Database}
use Rattle.sqlite.specs.Store.{Ghosts}
use Rattle.sqlite.specs.Tree.{Trees}
use Rattle.sqlite.specs.State.{HasCleanDisk, IsLive, IsUnchanged, Survives}
use Rattle.sqlite.specs.Held.{Held, state}
use Rattle.sqlite.specs.declared.error.Error.{Error}
use Rattle.sqlite.specs.declared.error.Error.TheVariants.{SqliteFailure}
use Rattle.sqlite.specs.declared.error.ErrorCode.TheVariants.{OutOfMemory}
use Rattle.sqlite_tables.specs.Format.{schema}
use Rattle.sqlite_tables.specs.Stored.{Loads}
use Rattle.sqlite_tables.specs.declared.stored.Stored.{Stored}
use Rattle.sqlite_tables.specs.Tables.{Span, ConfigRow, Entry, Contents, Holds, HoldsCell, HasRowids, AreKeyed, AsksRowids, span_cells, config_cells, entry_cells, id_cells}
use Rattle.sqlite_tables.specs.Numbered.{IsNumbered, AreNumberedTo}
use Rattle.sqlite_tables.specs.Steps.{Stays}

-- the device has returned what was written
abbrev pub IsClean : {S : Type 0} → Ghosts S → Held S → Type 0
IsClean g c = HasCleanDisk (state g c)

-- the tables are those of the format
abbrev pub HasFormat : {S : Type 0} → Ghosts S → Held S → Type 0
HasFormat g c = (state g c).now.schema ≡ schema

-- they hold the contents, whether these are committed or not
abbrev pub HoldsNow : {S : Type 0} → Ghosts S → Held S → Contents → Type 0
HoldsNow g c h = Holds (state g c).now h

-- what was read is what they hold
abbrev pub IsHeld : {S : Type 0} → Ghosts S → Held S → Stored → Type 0
IsHeld g c s = (h : Contents) × HoldsNow g c h × Loads h s

-- all is as it was
abbrev pub IsSame : {S : Type 0} → Ghosts S → Held S → Held S → Type 0
IsSame g old new = IsUnchanged (state g old) (state g new)

-- a crash leaves what it left before
abbrev pub LeavesNothing : {S : Type 0} → Ghosts S → Held S → Held S → Type 0
LeavesNothing g old new = Survives (state g old) (state g new) (λ _. ⊥)

-- so it is where the tables are those of the format
abbrev pub LeavesAsRead : {S : Type 0} → Ghosts S → Held S → Held S → Type 0
LeavesAsRead g old new = Survives (state g old) (state g new) (λ _. ¬ (HasFormat g old))

-- it is true of tables of the format, as long as the device returns what was written
abbrev pub OverFormat : {S : Type 0} → Ghosts S → Held S → Held S → Type 0 → Type 0
OverFormat g old new P = IsClean g new → HasFormat g old → P

-- what is found of the trees of such tables
abbrev pub Finds : {S A : Type 0} → Ghosts S → Held S → Held S → Result A Error → (Trees → A → Type 0) → Type 0
Finds g old new result Found = OverFormat g old new (IsLive (state g old) → IfOk result (Found (state g old).now.trees))

-- the table that is asked for has rowids
abbrev pub KeyedAsAsked : {S : Type 0} → Ghosts S → Held S → List ℕ → Type 0
KeyedAsAsked g c sql = (tree : ℕ) → AsksRowids sql tree → HasRowids ((state g c).now.trees tree)

-- and so has each
abbrev pub AllKeyed : {S : Type 0} → Ghosts S → Held S → Type 0
AllKeyed g c = AreKeyed (state g c).now.trees

-- what is held of such tables stays, or what was committed
abbrev pub StaysAsRead : {S : Type 0} → Ghosts S → Held S → Held S → Type 0
StaysAsRead g old new = HasFormat g old → Stays g old new

-- ---- the greatest rowid

-- the least number, below 2^63, up to which the rowids go
pub record IsGreatest (rows : List Row) (top : ℕ) : Type 0 where
  pub numbered : AllByRecursion (IsNumbered top) rows
  pub least : (n : ℕ) → AllByRecursion (IsNumbered n) rows → top ≤ n
  pub fits : top < 2 ^ 63

abbrev pub GreatestAsAsked : {S : Type 0} → Ghosts S → Held S → List ℕ → ℕ → Type 0
GreatestAsAsked g c sql top = (tree : ℕ) → AsksRowids sql tree → IsGreatest ((state g c).now.trees tree) top

-- the least number up to which the rowids of the spans go
pub record IsLast (trees : Trees) (last : ℕ) : Type 0 where
  pub numbered : AreNumberedTo last trees
  pub least : (n : ℕ) → AreNumberedTo n trees → last ≤ n

abbrev pub EndsAt : {S : Type 0} → Ghosts S → Held S → ℕ → Type 0
EndsAt g c last = IsLast (state g c).now.trees last

-- ---- what can be read

abbrev pub AreTexts : Span → Type 0
AreTexts s = IsUtf8 s.namespace × IsUtf8 s.object × IsUtf8 s.relation × IsUtf8 s.subject

-- the texts are UTF-8
pub record IsReadable (h : Contents) : Type 0 where
  pub spans : AllByRecursion AreTexts h.spans
  pub configs : AllByRecursion (λ c. IsUtf8 c.text) h.configs
  pub entries : AllByRecursion (λ e. IsUtf8 e.key) h.entries

-- the tables hold such contents, under rowids from 0
pub record CanLoad (db : Database) : Type 0 where
  pub contents : Contents
  pub holds : Holds db contents
  pub readable : IsReadable contents
  pub top : ℕ
  pub numbered : AreNumberedTo top db.trees

-- the column is there, and has a number from 0
abbrev pub HasNumber : Row → ℕ → Type 0
HasNumber row at = (at < length row) × (n : ℕ) × HoldsCell row at n

-- the row is one of these
abbrev pub ShowsSpan : Row → Type 0
ShowsSpan row = (s : Span) × AreTexts s × (row ≡ span_cells s)

abbrev pub ShowsConfig : Row → Type 0
ShowsConfig row = (c : ConfigRow) × IsUtf8 c.text × (row ≡ config_cells c)

abbrev pub ShowsEntry : Row → Type 0
ShowsEntry row = (e : Entry) × IsUtf8 e.key × (row ≡ entry_cells e)

abbrev pub ShowsId : Row → Type 0
ShowsId row = (id : ℕ) × (row ≡ id_cells id)

-- so is each
abbrev pub AreShown : (Row → Type 0) → List Row → Type 0
AreShown Shows rows = AllByRecursion Shows rows

-- what is refused for anything but memory is not so
abbrev pub Unread : {A : Type 0} → Result A Error → Type 0 → Type 0
Unread result P = IfErr result (λ e. e ≢ SqliteFailure OutOfMemory → ¬ P)

-- What a run over a connection starts from.
use Rattle.std.specs.Prelude.{◌≡◌, ◌≢◌, ℕ, Option, Some, None}
use Rattle.sqlite.specs.Store.{Ghosts}
use Rattle.sqlite.specs.Held.{Held, state}
use Rattle.rows.specs.Retained.{empty_store}
use Rattle.tables.specs.Device.{IsOpen}
use Rattle.tables.specs.declared.tables.TablesError.{TablesError}
use Rattle.tables.specs.declared.tables.TablesError.TheVariants.{Fault}
use Rattle.sqlite_tables.specs.Format.{schema}
use Rattle.store.specs.History.{KeepsHistory, LeavesAtMostNew, IsFaultOfDevice, device_below}

-- the new tables of an open connection hold a store with no commit; and a crash meanwhile left nothing else
pub record IsMade {S : Type 0} (g : Ghosts S) (conn : Held S) (number : ℕ) (made : Held S) : Type 0 where
  pub keeps : KeepsHistory g made (empty_store number)
  pub stands : IsOpen (device_below g made)
  pub crash : LeavesAtMostNew g conn made number

abbrev pub StartsFrom : {S : Type 0} → Ghosts S → Held S → Option ℕ → Held S → Type 0
StartsFrom g conn None started = started ≡ conn
StartsFrom g conn (Some number) started = IsMade g conn number started

-- the tables are those of another format, or could not be made
abbrev pub FailsToStart : {S : Type 0} → Ghosts S → Held S → Option ℕ → TablesError → Held S → Type 0
FailsToStart g conn None why left = (why ≡ Fault) × (left ≡ conn) × ((state g conn).now.schema ≢ schema)
FailsToStart g conn (Some number) why left = LeavesAtMostNew g conn left number × IsFaultOfDevice g conn left why

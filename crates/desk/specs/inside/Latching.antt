-- What is noted of a refused change.
use Rattle.std.specs.Prelude.{◌≡◌, ◌⊎◌, true, false, List, ◌∷◌}
use Rattle.names.specs.declared.refusal.Refusal.{Refusal}
use Rattle.names.specs.declared.refusal.Refusal.TheVariants.{Memory, StoreFault}
use Rattle.tables.specs.Device.{IsOpen, HasFailed}
use Rattle.tables.specs.Storing.{one_more}
use Rattle.rows.specs.Retained.{Retained}
use Rattle.tables.specs.declared.tables.Tables.{Ghosts}
use Rattle.desk.specs.declared.latched_tables.LatchedTables.{LatchedTables}
use Rattle.desk.specs.TableChanges.{TableChange, changed}
use Rattle.desk.specs.Posts.{Agrees}

-- want of memory is no fault; a fault is noted, and counted, and is one of the device
abbrev pub IsLatched : {T : Type 0}
    → Ghosts T → LatchedTables T → Refusal → LatchedTables T → Type 0
IsLatched g old Memory new = (new.failed ≡ false) × (g.count new.tables ≡ g.count old.tables)
IsLatched g old StoreFault new =
    (new.failed ≡ true) × (g.count new.tables ≡ one_more (g.count old.tables))
    × (IsOpen (g.device old.tables) → HasFailed (g.device old.tables) (g.device new.tables))
IsLatched g old _ new = ⊥

-- the tables agree with the history, as a desk's do
abbrev pub AgreeWith : {T : Type 0} → Ghosts T → LatchedTables T → Retained → Type 0
AgreeWith g t r = Agrees g t.failed t.tables r

-- the change was not stored: the tables are as they were, or may leave the history with it too
pub record IsUnstored {T : Type 0}
    (g : Ghosts T) (r : Retained) (change : TableChange)
    (old : LatchedTables T) (why : Refusal) (new : LatchedTables T) : Type 0 where
  pub latched : IsLatched g old why new
  pub touched : (new.tables ≡ old.tables)
      ⊎ ((rs : List Retained) → g.leaves old.tables rs → g.leaves new.tables (changed r change ∷ rs))

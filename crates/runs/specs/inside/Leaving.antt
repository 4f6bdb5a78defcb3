-- What the tables of a desk leave while it answers.
use Rattle.std.specs.Prelude.{ℕ, ◌≡◌, false, List, ◌∷◌, map}
use Rattle.std.specs.List.{All}
use Rattle.tables.specs.Device.{Device, Lasts}
use Rattle.tables.specs.declared.tables.Tables.{Ghosts}
use Rattle.desk.specs.TableChanges.{TableChange, changed, CanChange}
use Rattle.desk.specs.Posts.{Posts}
use Rattle.calls.specs.Rules.{DeskStep}
use Rattle.lines.specs.Machine.{Run}
use Rattle.calls.specs.Beginning.{kept_by}

-- The tables hold the history of the posted steps as long as they have not failed; what is left holds it, perhaps with one change
-- more of which P is true; and the device has gone on.
pub record HasLeft {T : Type 0} (g : Ghosts T) (P : TableChange → Type 0) (start : Device) (desk : Posts T) : Type 0 where
  pub holds : desk.failed ≡ false → g.holds desk.tables (kept_by desk)
  pub more : List TableChange
  pub follow : All (CanChange (kept_by desk)) more
  pub asked : All P more
  pub leaves : g.leaves desk.tables (kept_by desk ∷ map (changed (kept_by desk)) more)
  pub lasts : Lasts start (g.device desk.tables)

-- some lines were answered
abbrev pub Answered : {T : Type 0} → Ghosts T → Posts T → Posts T → Type 0
Answered g first last = (lines : List (List ℕ)) × (text : List ℕ) × Run (DeskStep g) first lines text last

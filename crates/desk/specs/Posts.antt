-- What a desk holds.
use Rattle.std.specs.Prelude.{◌≡◌, ◌⊎◌, ℕ, Bool, false, List, [], ◌∷◌, ◌++◌, map}
use Rattle.std.specs.List.{All}
use mathlib.Core.List.{IsPrefix}
use Rattle.logbook.specs.Pages.{Book}
use Rattle.meaning.specs.Verdict.{Newest}
use Rattle.rows.specs.Retained.{Retained, newest_of}
use Rattle.rows.specs.Loads.{retained_of}
use Rattle.rows.specs.declared.loaded.Loaded.{Loaded}
use Rattle.tables.specs.Device.{IsClean, IsOpen, Lasts, HasFailed}
use Rattle.tables.specs.declared.tables.Tables.{Ghosts}
use Rattle.shown.specs.declared.step.Step.{Step}
use Rattle.shown.specs.declared.step.Step.TheVariants.{Open}
use Rattle.shown.specs.Standing.{standing}
use Rattle.published.specs.Known.{Known}
use Rattle.published.specs.Judged.{WereJudged}
use Rattle.desk.specs.TableChanges.{TableChange, changed, CanChange}

-- The tables, the book, the posted steps, and those of them that are shown; whether the tables failed, and
-- how often they did; how many sessions can still be had.
pub record Posts (T : Type 0) : Type 0 where
  pub tables : T
  pub book : Book
  pub posted : List Step
  pub shown : List Step
  pub failed : Bool
  pub faults : ℕ
  pub seats : ℕ

-- the published list, with its book
abbrev pub shown_by : {T : Type 0} → Posts T → Known
shown_by d = record { book = d.book; steps = d.shown }

-- what changes are judged on: the newest revision of all posted steps
abbrev pub newest_posted : {T : Type 0} → Posts T → Newest
newest_posted d = newest_of (standing d.posted).kept

-- the newest revision of the shown steps
abbrev pub newest_shown : {T : Type 0} → Posts T → Newest
newest_shown d = newest_of (standing d.shown).kept

-- The tables hold the history as long as they have not failed. After the end of the process or a crash the
-- tables that are left hold it, or it with one change: a commit that can follow, or a higher floor.
pub record Agrees {T : Type 0} (g : Ghosts T) (failed : Bool) (tables : T) (r : Retained) : Type 0 where
  pub holds : failed ≡ false → g.holds tables r
  pub more : List TableChange
  pub follow : All (CanChange r) more
  pub leaves : g.leaves tables (r ∷ map (changed r) more)

-- As long as the tables have not failed and are open, what is left of them now holds the posted steps' history, and no other.
abbrev pub IsSettled : {T : Type 0} → Ghosts T → Posts T → Type 0
IsSettled g d = d.failed ≡ false → IsOpen (g.device d.tables) → g.leaves d.tables ((standing d.posted).kept ∷ [])

-- The one posted step opens tables with a history that they hold. Where the device has returned what was
-- written, it is one that they held before, and no other than each that they held.
abbrev pub OpensWith : {T : Type 0} → Ghosts T → T → Posts T → Type 0
OpensWith g tables d =
    (loaded : Loaded) × (d.posted ≡ Open loaded ∷ []) × g.holds d.tables (retained_of loaded)
    × (IsClean (g.device d.tables) → g.holds tables (retained_of loaded))
    × ((r : Retained) → g.holds tables r → IsClean (g.device d.tables) → retained_of loaded ≡ r)

-- Tables that were given and come back hold and leave what they did. As long as they are open and the device has returned
-- what was written, they hold nothing else.
pub record ComesBack {T : Type 0} (g : Ghosts T) (given back : T) : Type 0 where
  pub holds : (r : Retained) → g.holds given r → g.holds back r
  pub only : (r : Retained) → g.holds back r → IsClean (g.device back) → IsOpen (g.device back) → g.holds given r
  pub leaves : (rs : List Retained) → g.leaves given rs → g.leaves back rs
  pub lasts : Lasts (g.device given) (g.device back)

-- the device failed, or the tables that were given hold no history
abbrev pub FailsToLoad : {T : Type 0} → Ghosts T → T → T → Type 0
FailsToLoad g given back =
    HasFailed (g.device given) (g.device back)
    ⊎ ((r : Retained) → IsClean (g.device given) → ¬ (g.holds given r))

-- the tables are as they were
abbrev pub SameTables : {T : Type 0} → Posts T → Posts T → Type 0
SameTables old new = (new.tables ≡ old.tables) × (new.failed ≡ old.failed) × (new.faults ≡ old.faults)

-- Nothing is posted, and no fewer steps are shown, as a beginning of the posted ones. All of them were judged.
pub record ShowsMore {T : Type 0} (old new : Posts T) : Type 0 where
  pub posted : new.posted ≡ old.posted
  pub book : new.book ≡ old.book
  pub later : IsPrefix old.shown new.shown
  pub beginning : IsPrefix new.shown new.posted
  pub judged : WereJudged new.posted new.shown

-- The step is posted behind the others, then no fewer steps are shown, and the tables did not fail.
pub record PostsStep {T : Type 0} (old : Posts T) (step : Step) (new : Posts T) : Type 0 where
  pub shows : ShowsMore (record old { posted = old.posted ++ step ∷ [] }) new
  pub faults : new.faults ≡ old.faults

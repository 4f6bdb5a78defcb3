-- What is known of a desk once it was opened on tables.
use Rattle.std.specs.Prelude.{◌≡◌, false, [], ◌∷◌}
use Rattle.rows.specs.Retained.{Retained}
use Rattle.tables.specs.declared.tables.Tables.{Ghosts}
use Rattle.shown.specs.Standing.{standing}
use Rattle.published.specs.Judged.{WereJudged}
use Rattle.desk.specs.Posts.{Posts, OpensWith, ComesBack}

-- the history of the posted steps
abbrev pub kept_by : {T : Type 0} → Posts T → Retained
kept_by desk = (standing desk.posted).kept

-- what is known of a desk that was opened on tables
pub record Began {T : Type 0} (g : Ghosts T) (tables : T) (first : Posts T) : Type 0 where
  pub posted : OpensWith g tables first
  pub shown : first.shown ≡ first.posted
  pub judged : WereJudged first.posted first.shown
  pub works : first.failed ≡ false
  pub settled : g.leaves first.tables (kept_by first ∷ [])
  pub back : ComesBack g tables first.tables

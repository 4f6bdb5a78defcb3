-- What is true of every desk.
use Rattle.std.specs.Prelude.{◌≡◌, Bool}
use mathlib.Core.List.{IsPrefix}
use Rattle.tables.specs.declared.tables.Tables.{Ghosts}
use Rattle.shown.specs.Standing.{Standing, standing}
use Rattle.published.specs.Judged.{WereJudged}
use Rattle.published.specs.Publishing.{Publishing}
use Rattle.desk.specs.Posts.{Agrees}

-- The state that changes are judged on is the standing of all posted steps, with whose history the tables agree. The shown
-- steps are a beginning of them, and all were judged.
pub record IsSound {T : Type 0}
    (g : Ghosts T) (failed : Bool) (tables : T) (own : Standing) (publication : Publishing) : Type 0 where
  pub stands : own ≡ standing publication.posted
  pub beginning : IsPrefix publication.shown publication.posted
  pub judged : WereJudged publication.posted publication.shown
  pub agrees : Agrees g failed tables (standing publication.posted).kept

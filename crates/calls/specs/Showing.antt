-- What a question may do to a desk, and how its revisions are told.
use Rattle.std.specs.Prelude.{ℕ, ◌≡◌, ◌⊎◌, List}
use Rattle.zookie.specs.Text.{zookie_text}
use Rattle.shown.specs.declared.question.Question.{Question}
use Rattle.shown.specs.Standing.{standing}
use Rattle.shown.specs.Asked.{IsAhead}
use Rattle.desk.specs.Posts.{Posts, ShowsMore, SameTables}

-- the zookie of a revision of the desk's store
abbrev pub zookie_at : {T : Type 0} → Posts T → ℕ → List ℕ
zookie_at desk rev = zookie_text (standing desk.posted).kept.number rev

-- nothing is changed, but more of the posted steps may be shown
pub record OnlyShows {T : Type 0} (old new : Posts T) : Type 0 where
  pub shows : ShowsMore old new
  pub tables : SameTables old new
  pub seats : new.seats ≡ old.seats

-- So it is, and more is shown only where the question was of a revision that was not shown.
pub record ShowsFor {T : Type 0} (question : Question) (old new : Posts T) : Type 0 where
  pub only : OnlyShows old new
  pub sought : (new ≡ old) ⊎ IsAhead (standing old.shown) question

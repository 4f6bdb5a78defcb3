-- What a publication is.
use Rattle.std.specs.Prelude.{◌≡◌, ◌≤◌, ℕ, List}
use mathlib.Core.List.{IsPrefix}
use Rattle.logbook.specs.Pages.{Book}
use Rattle.shown.specs.declared.step.Step.{Step}
use Rattle.published.specs.Known.{Known}
use Rattle.published.specs.Judged.{WereJudged}

-- The book, the posted steps, those of them that are shown, how many sessions are left, and for how many
-- steps there is room to wait.
pub record Publishing : Type 0 where
  pub book : Book
  pub posted : List Step
  pub shown : List Step
  pub seats : ℕ
  pub room : ℕ

-- the published list, with its book
abbrev pub shown_by : Publishing → Known
shown_by p = record { book = p.book; steps = p.shown }

-- Nothing is posted, no session is given out, and no room is lost. No fewer steps are shown, as a beginning
-- of the posted ones. All of them were judged.
pub record ShowsMoreOf (old new : Publishing) : Type 0 where
  pub posted : new.posted ≡ old.posted
  pub book : new.book ≡ old.book
  pub later : IsPrefix old.shown new.shown
  pub beginning : IsPrefix new.shown new.posted
  pub judged : WereJudged new.posted new.shown
  pub seats : new.seats ≡ old.seats
  pub room : old.room ≤ new.room

-- all but the room is as it was
abbrev pub IsSameBut : Publishing → Publishing → Type 0
IsSameBut old new =
    (new.book ≡ old.book) × (new.posted ≡ old.posted) × (new.shown ≡ old.shown) × (new.seats ≡ old.seats)

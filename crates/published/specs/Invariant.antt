-- What is true of every publication.
use Rattle.std.specs.Prelude.{◌≡◌, List, ◌++◌, Option, Some, option_to_list}
use Rattle.std.specs.List.{All}
use Rattle.logbook.specs.Pages.{Book}
use Rattle.shown.specs.declared.step.Step.{Step}
use Rattle.published.specs.Known.{Known}
use Rattle.published.specs.Copies.{Copy, Posted, Stands, Chain}
use Rattle.published.specs.Judged.{AreJudged}
use Rattle.published.specs.Writing.{Writing}

-- What is published stands for its steps. They, what waits at the writer and what found no memory there lead
-- to the steps that were entered in the book.
pub record Leads (book : Book) (entered : Known) (p : Writing Copy Posted) (stuck : Option Posted) : Type 0 where
  pub of_book : entered.book ≡ book
  pub chain : Chain p.published.prefix (p.waiting ++ option_to_list stuck) entered
  pub told : p.told ≡ Some p.published.prefix
  pub stands : Stands p.published

-- the publication is of the book that was named and leads so, all posted steps were judged, and the sessions are of the book
pub record IsSound
    (named book : Book) (entered : Known) (backlog : List Step) (p : Writing Copy Posted) (stuck : Option Posted)
    (sessions : List Known) : Type 0 where
  pub of_name : book ≡ named
  pub leads : Leads book entered p stuck
  pub judged : AreJudged (entered.steps ++ backlog)
  pub seated : All (λ s. s.book ≡ book) sessions

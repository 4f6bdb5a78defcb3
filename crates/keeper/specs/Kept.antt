-- What is true of every desk under a keeper's lock, and of whoever was told of it.
use Rattle.std.specs.Prelude.{◌≡◌, List, [], ◌∷◌}
use mathlib.Core.List.{IsPrefix}
use Rattle.logbook.specs.Pages.{Book}
use Rattle.rows.specs.declared.loaded.Loaded.{Loaded}
use Rattle.tables.specs.declared.tables.Tables.{Ghosts}
use Rattle.shown.specs.declared.step.Step.{Step}
use Rattle.shown.specs.declared.step.Step.TheVariants.{Open}
use Rattle.shown.specs.Standing.{standing}
use Rattle.published.specs.Known.{Known, Begins}
use Rattle.published.specs.Judged.{AreJudged, WereJudged}
use Rattle.published.specs.Rising.{Rises}
use Rattle.desk.specs.Posts.{Posts, Agrees, IsSettled}
use Rattle.one_history.specs.declared.entry.Entry.{Entry}
use Rattle.keeper.specs.declared.deeds.Deed.{Deed}
use Rattle.keeper.specs.Deeds.{IsLeft}

-- the steps begin with an opening
pub record IsOpened (steps : List Step) : Type 0 where
  pub loaded : Loaded
  pub begins : IsPrefix (Open loaded ∷ []) steps

-- the steps are of the book, begin with its opening, and were judged before they were posted
pub record IsKnownIn (book : Book) (known : Known) : Type 0 where
  pub of_book : known.book ≡ book
  pub opened : IsOpened known.steps
  pub judged : AreJudged known.steps

-- a session knows all that it knew, and all that it then knows was judged
abbrev pub KnowsMore : Known → Known → Type 0
KnowsMore old new = Begins old new × AreJudged new.steps

-- A session knows all that it knew. The history that it answers by is of the same store, neither its floor nor its newest
-- revision is lower, and what both retain is the same.
pub record NeverGoesBack (old new : Known) : Type 0 where
  pub begins : Begins old new
  pub rises : Rises (standing old.steps).kept (standing new.steps).kept

-- the desk is of the book, and shows what it was opened with
pub record IsOfBook {T : Type 0} (book : Book) (desk : Posts T) : Type 0 where
  pub of_book : desk.book ≡ book
  pub opened : IsOpened desk.shown

-- So, and what it shows is a beginning of what is posted. All of that was judged, and its history is the one that the tables
-- agree with; they leave it alone as long as they are open and have not failed.
pub record IsKept {T : Type 0} (g : Ghosts T) (book : Book) (desk : Posts T) : Type 0 where
  pub of_the_book : IsOfBook book desk
  pub beginning : IsPrefix desk.shown desk.posted
  pub judged : WereJudged desk.posted desk.shown
  pub agrees : Agrees g desk.failed desk.tables (standing desk.posted).kept
  pub settled : IsSettled g desk

-- Tables that a desk of the book gave back, which was what all these deeds had left of one that was opened so: they agree with
-- what it had posted, of which what it showed is a beginning.
pub record WereKept {T : Type 0} (g : Ghosts T) (book : Book) (starts : Posts T → Type 0) (deeds : List (Entry Deed)) (tables : T) : Type 0 where
  pub desk : Posts T
  pub kept : IsKept g book desk
  pub left : IsLeft g starts deeds desk
  pub same : tables ≡ desk.tables
  pub agrees : Agrees g desk.failed tables (standing desk.posted).kept

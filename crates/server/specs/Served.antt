-- What became of all workers and of the indexer, told by one list of what was done to the desk under the lock.
use Rattle.std.specs.Prelude.{ℕ, ◌≡◌, List, [], ◌∷◌, length, ⊤}
use Rattle.logbook.specs.Pages.{Book}
use Rattle.tables.specs.declared.tables.Tables.{Ghosts}
use Rattle.desk.specs.Posts.{Posts}
use Rattle.answers.specs.declared.end.End.{End}
use Rattle.one_history.specs.History.{Hand}
use Rattle.one_history.specs.declared.entry.Entry.{Entry}
use Rattle.keeper.specs.declared.deeds.Deed.{Deed}
use Rattle.keeper.specs.Deeds.{IsLeft, StandsIn}
use Rattle.keeper.specs.Fronts.{FrontState, FrontStep, IsSeated}
use Rattle.keeper.specs.Kept.{IsKept}
use Rattle.server.specs.Attending.{Attended, OneByOne}
use Rattle.server.specs.Turning.{TurnByTurn}

module _ {T : Type 0} (g : Ghosts T) (book : Book) (starts : Posts T → Type 0) where
  -- each of these has a front with a seat of its own
  abbrev pub AllSeated : {S : Type 0} → (S → FrontState) → List S → Type 0
  AllSeated front [] = ⊤
  AllSeated front (s ∷ more) = IsSeated g book starts (front s) × AllSeated front more

module _ {T : Type 0} (g : Ghosts T) (book : Book) (starts : Posts T → Type 0) (deeds : List (Entry Deed)) where
  -- A worker began with a seat of its own, and its connections took it on, one after another, as a front may answer. What it did
  -- under the lock are just the deeds that stand under its number.
  pub record WorkerServed : Type 0 where
    pub began : FrontState
    pub seated : IsSeated g book starts began
    pub ends : List End
    pub ended : FrontState
    pub served : OneByOne (Attended (FrontStep g book starts)) began ends ended
    pub stands : StandsIn deeds ended.hand

  -- The indexer began with a seat of its own, and took so many turns, one after another. What it did under the lock are just the
  -- deeds that stand under its number.
  pub record IndexerFollowed : Type 0 where
    pub began : FrontState
    pub seated : IsSeated g book starts began
    pub turns : ℕ
    pub ended : Hand Deed
    pub followed : TurnByTurn g book starts began.hand turns ended
    pub stands : StandsIn deeds ended

-- One list of deeds has left the desk under the lock, of one that was opened so. In it stands all that so many workers and the
-- indexer did there: their replies are one run of that desk, in the order of the lock.
pub record AllServed {T : Type 0} (g : Ghosts T) (book : Book) (starts : Posts T → Type 0) (workers : ℕ) : Type 0 where
  pub desk : Posts T
  pub deeds : List (Entry Deed)
  pub kept : IsKept g book desk
  pub left : IsLeft g starts deeds desk
  pub served : List (WorkerServed g book starts deeds)
  pub number : length served ≡ workers
  pub followed : IndexerFollowed g book starts deeds

-- What a turn of the indexer notes of the desk under the lock, and what turns do that are taken one after another.
use Rattle.std.specs.Prelude.{◌≡◌, ℕ, zero, suc}
use Rattle.logbook.specs.Pages.{Book}
use Rattle.names.specs.declared.part.Part.TheVariants.{Index, Hot}
use Rattle.names.specs.declared.refusal.Refusal.{Refusal}
use Rattle.tables.specs.declared.tables.Tables.{Ghosts}
use Rattle.published.specs.Receipts.{ReceiptFacts}
use Rattle.desk.specs.Posts.{Posts}
use Rattle.desk.specs.Changes.{CatchUpAccepted, CatchUpJudged, IsNoChange, IsRefused}
use Rattle.one_history.specs.History.{Hand}
use Rattle.keeper.specs.declared.deeds.Deed.{Deed}
use Rattle.keeper.specs.declared.deeds.Deed.TheVariants.{CaughtUp, Refreshed}
use Rattle.keeper.specs.Deeds.{IsDoneTo}
use Rattle.keeper.specs.Kept.{IsKept}
use Rattle.server.specs.declared.turn.TheConstants.{TURN_COMMITS}

-- The index took the commits of a turn, and the hot table was then to take its own, from the desk that the index had left; or the
-- index was refused them, and that was all. Each is one deed of this place.
pub data PartsDone {T : Type 0} (g : Ghosts T) (starts : Posts T → Type 0) (old : Hand Deed) (before after : Posts T) (new : Hand Deed) : Type 0 where
  both : (hand : Hand Deed) (desk : Posts T) (index : ℕ) (told : ReceiptFacts)
      → CatchUpAccepted before Index TURN_COMMITS index told desk
      → IsDoneTo g starts old before (CaughtUp Index TURN_COMMITS) desk hand
      → IsDoneTo g starts hand desk (CaughtUp Hot TURN_COMMITS) after new → PartsDone g starts old before after new
  index_alone : (why : Refusal) → IsRefused g before IsNoChange (CatchUpJudged TURN_COMMITS) why after
      → IsDoneTo g starts old before (CaughtUp Index TURN_COMMITS) after new → PartsDone g starts old before after new

-- A turn is this, and then the session was shown what is published, by the desk that this had left: two or three deeds of this place,
-- and no other of its own.
pub record TurnDone {T : Type 0} (g : Ghosts T) (starts : Posts T → Type 0) (old : Hand Deed) (before after : Posts T) (new : Hand Deed) : Type 0 where
  pub hand : Hand Deed
  pub desk : Posts T
  pub parts : PartsDone g starts old before desk hand
  pub shows : IsDoneTo g starts hand desk Refreshed after new

-- so it was with a desk under the lock
pub record TakesOneTurn {T : Type 0} (g : Ghosts T) (book : Book) (starts : Posts T → Type 0) (old new : Hand Deed) : Type 0 where
  pub before : Posts T
  pub after : Posts T
  pub kept : IsKept g book before
  pub done : TurnDone g starts old before after new

-- so many turns, one after another: this place did them, and nothing else
abbrev pub TurnByTurn : {T : Type 0} → Ghosts T → Book → (Posts T → Type 0) → Hand Deed → ℕ → Hand Deed → Type 0
TurnByTurn g book starts old zero new = new ≡ old
TurnByTurn g book starts old (suc turns) new = (mid : Hand Deed) × TurnByTurn g book starts old turns mid × TakesOneTurn g book starts mid new

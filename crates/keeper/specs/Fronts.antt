-- What a worker's front knows, what it may answer to a call, and what it knows after that.
use Rattle.std.specs.Prelude.{ℕ, ◌≡◌, ◌⊎◌, List, [], Option}
use Rattle.std.specs.Bool.{MatchBool}
use Rattle.names.specs.declared.call.Call.{Call}
use Rattle.tables.specs.declared.tables.Tables.{Ghosts}
use Rattle.logbook.specs.Pages.{Book}
use Rattle.published.specs.Known.{Known, Begins}
use Rattle.published.specs.Receipts.{ReceiptFacts}
use Rattle.desk.specs.Posts.{Posts, shown_by}
use Rattle.desk.specs.Changes.{TellsShown}
use Rattle.calls.specs.Changes.{is_change}
use Rattle.calls.specs.steps.Change.{ChangeStep}
use Rattle.one_history.specs.History.{Hand}
use Rattle.keeper.specs.declared.deeds.Deed.{Deed}
use Rattle.keeper.specs.declared.deeds.Deed.TheVariants.{Answered, Refreshed, Seated}
use Rattle.keeper.specs.Deeds.{IsDoneTo}
use Rattle.keeper.specs.Kept.{IsKept, KnowsMore, NeverGoesBack}
use Rattle.keeper.specs.Questions.{AskFrom, sought_by}

-- what its session knows, and what it knows of the deeds under the lock
pub record FrontState : Type 0 where
  pub known : Known
  pub hand : Hand Deed

-- A change: whatever a desk holds, it would tell this and stay as it is, and nothing was done; or the desk under the lock was
-- asked, whose rules let it tell this, and no other deed is this worker's meanwhile. Its session then knows no less than it did,
-- and all that the desk shows after it.
pub data ChangeFrom {T : Type 0} (g : Ghosts T) (book : Book) (starts : Posts T → Type 0)
    (old : FrontState) (call : Call) (body : List ℕ) (told : Option (ℕ × List ℕ)) (new : FrontState) : Type 0 where
  off_the_desk : ((desk : Posts T) → ChangeStep g desk call body told desk) → new ≡ old
      → ChangeFrom g book starts old call body told new
  on_the_desk : (before after : Posts T) → IsKept g book before → IsKept g book after
      → IsDoneTo g starts old.hand before (Answered call body told) after new.hand
      → KnowsMore old.known new.known → Begins (shown_by after) new.known
      → ChangeFrom g book starts old call body told new

-- The worker had the desk under the lock show what waited, and its session then knows all that is shown. No other deed is its
-- own meanwhile.
pub record Sought {T : Type 0} (g : Ghosts T) (book : Book) (starts : Posts T → Type 0) (old new : FrontState) : Type 0 where
  pub before : Posts T
  pub after : Posts T
  pub kept : IsKept g book after
  pub done : IsDoneTo g starts old.hand before Refreshed after new.hand
  pub known : Begins (shown_by after) new.known

-- so, and that desk told this of itself: its store's number, its newest shown revision, and whether all that is posted is shown
pub record ToldByDesk {T : Type 0} (g : Ghosts T) (book : Book) (starts : Posts T → Type 0)
    (receipt : ReceiptFacts) (old new : FrontState) : Type 0 where
  pub sought : Sought g book starts old new
  pub tells : TellsShown receipt sought.after

-- The session was asked, and nothing was done under the lock; or what waits was sought once. That a question is of the future
-- is told only where it was.
pub record QuestionFrom {T : Type 0} (g : Ghosts T) (book : Book) (starts : Posts T → Type 0)
    (old : FrontState) (call : Call) (body : List ℕ) (told : Option (ℕ × List ℕ)) (new : FrontState) : Type 0 where
  pub asked : AskFrom (sought_by call (Sought g book starts old new)) old.known call body told new.known
  pub deeds : (new.hand ≡ old.hand) ⊎ Sought g book starts old new

-- from what it knows, the front may tell this to the call with this body, and then it knows this
abbrev pub MayTell : {T : Type 0}
    → Ghosts T → Book → (Posts T → Type 0) → FrontState → Call → List ℕ → Option (ℕ × List ℕ) → FrontState → Type 0
MayTell g book starts old call body told new =
    MatchBool (is_change call)
    (ChangeFrom g book starts old call body told new)
    (QuestionFrom g book starts old call body told new)

-- it may tell so, and no later answer goes back on what its session knew
pub record FrontStep {T : Type 0} (g : Ghosts T) (book : Book) (starts : Posts T → Type 0)
    (old : FrontState) (call : Call) (body : List ℕ) (told : Option (ℕ × List ℕ)) (new : FrontState) : Type 0 where
  pub tells : MayTell g book starts old call body told new
  pub never_back : NeverGoesBack old.known new.known

-- a front that was just made has done one thing, which was to ask the desk for its session, and that knows what is shown
pub record IsSeated {T : Type 0} (g : Ghosts T) (book : Book) (starts : Posts T → Type 0) (new : FrontState) : Type 0 where
  pub start : Hand Deed
  pub fresh : start.mine ≡ []
  pub before : Posts T
  pub after : Posts T
  pub kept : IsKept g book after
  pub done : IsDoneTo g starts start before Seated after new.hand
  pub known : Begins (shown_by after) new.known

-- What is done to a desk under a keeper's lock, and what a desk is by all that was done to it.
use Rattle.std.specs.Prelude.{ℕ, ◌≡◌, ◌⊎◌, ◌+◌, List, [], ◌∷◌, ◌++◌, ⊤}
use mathlib.Core.List.{IsPrefix}
use Rattle.names.specs.declared.part.Part.{Part}
use Rattle.names.specs.declared.refusal.Refusal.{Refusal}
use Rattle.tables.specs.declared.tables.Tables.{Ghosts}
use Rattle.published.specs.Receipts.{ReceiptFacts}
use Rattle.desk.specs.Posts.{Posts, SameTables, ShowsMore}
use Rattle.desk.specs.Changes.{CatchUpAccepted, CatchUpJudged, IsNoChange, IsRefused}
use Rattle.desk.specs.Made.{IsMade, MayStore, SpeaksAgainst}
use Rattle.desk.specs.declared.change.Change.{Change}
use Rattle.desk.specs.declared.change.Made.{Made}
use Rattle.calls.specs.steps.Change.{ChangeStep}
use Rattle.one_history.specs.History.{Hand, signed, entries_by}
use Rattle.one_history.specs.Runs.{RanFrom, IsDone}
use Rattle.one_history.specs.declared.entry.Entry.{Entry}
use Rattle.keeper.specs.declared.deeds.Deed.{Deed}
use Rattle.keeper.specs.declared.deeds.Deed.TheVariants.{Answered, CaughtUp, Changed, Refreshed, Seated}

-- A worker's deed stands behind all others, of which it had seen a beginning. It has seen all of them now, and its own among them
-- are those that it did, of which this is the last.
pub record IsNoted (old : Hand Deed) (log : List (Entry Deed)) (deed : Deed) (new : Hand Deed) (now : List (Entry Deed)) : Type 0 where
  pub noted : now ≡ log ++ signed old.by (deed ∷ [])
  pub begins : IsPrefix old.seen log
  pub by : new.by ≡ old.by
  pub seen : new.seen ≡ now
  pub mine : new.mine ≡ old.mine ++ signed old.by (deed ∷ [])
  pub own : entries_by new.by now ≡ new.mine

-- the part took the commits, or was refused them
pub data CatchesUp {T : Type 0} (g : Ghosts T) (before : Posts T) (part : Part) (commits : ℕ) (after : Posts T) : Type 0 where
  takes : (value : ℕ) (receipt : ReceiptFacts) → CatchUpAccepted before part commits value receipt after → CatchesUp g before part commits after
  takes_none : (why : Refusal) → IsRefused g before IsNoChange (CatchUpJudged commits) why after → CatchesUp g before part commits after

-- some change was made, or refused
pub data Changes {T : Type 0} (g : Ghosts T) (before after : Posts T) : Type 0 where
  makes : (change : Change) (made : Made) (receipt : ReceiptFacts) → IsMade g before change made receipt after → Changes g before after
  makes_none : (change : Change) (why : Refusal) → IsRefused g before (MayStore before change) (SpeaksAgainst before change) why after
      → Changes g before after

-- nothing is posted, and nothing changed in the tables
abbrev pub OnlyShows : {T : Type 0} → Posts T → Posts T → Type 0
OnlyShows before after = ShowsMore before after × SameTables before after

-- What is noted was done: a call that asks for a change was answered so, a part was moved or some change made for no call, what is
-- published was shown to a session, or a session was given out, if there was one left.
abbrev pub Does : {T : Type 0} → Ghosts T → Posts T → Deed → Posts T → Type 0
Does g before (Answered call body told) after = ChangeStep g before call body told after
Does g before (CaughtUp part commits) after = CatchesUp g before part commits after × (after.seats ≡ before.seats)
Does g before Changed after = Changes g before after × (after.seats ≡ before.seats)
Does g before Refreshed after = OnlyShows before after × (after.seats ≡ before.seats)
Does g before Seated after = OnlyShows before after × ((after.seats ≡ before.seats) ⊎ (after.seats + 1 ≡ before.seats))

-- the desk is what all that was done has left, of one that was opened so
abbrev pub IsLeft : {T : Type 0} → Ghosts T → (Posts T → Type 0) → List (Entry Deed) → Posts T → Type 0
IsLeft g starts deeds desk = RanFrom (Does g) starts deeds desk

-- a worker did this to the desk that was there, behind all that was done before
abbrev pub IsDoneTo : {T : Type 0} → Ghosts T → (Posts T → Type 0) → Hand Deed → Posts T → Deed → Posts T → Hand Deed → Type 0
IsDoneTo g starts old before deed after new = IsDone (Does g) starts old before deed after new

-- a place had seen a beginning of these deeds, and its own among them are just those that it did
pub record StandsIn (deeds : List (Entry Deed)) (place : Hand Deed) : Type 0 where
  pub begins : IsPrefix place.seen deeds
  pub own : entries_by place.by deeds ≡ place.mine

-- so does each of these places
abbrev pub AllStandIn : List (Entry Deed) → List (Hand Deed) → Type 0
AllStandIn deeds [] = ⊤
AllStandIn deeds (place ∷ places) = StandsIn deeds place × AllStandIn deeds places

-- What a turn of the indexer does to a desk.
use Rattle.std.specs.Prelude.{◌<◌, ℕ, min}
use Rattle.names.specs.declared.part.Part.TheVariants.{Index, Hot}
use Rattle.names.specs.declared.refusal.Refusal.{Refusal}
use Rattle.names.specs.declared.state.State.{State}
use Rattle.tables.specs.declared.tables.Tables.{Ghosts}
use Rattle.published.specs.Receipts.{ReceiptFacts}
use Rattle.desk.specs.Posts.{Posts}
use Rattle.desk.specs.Changes.{CatchUpAccepted, CatchUpJudged, IsNoChange, IsRefused}
use Rattle.server.specs.declared.turn.TheConstants.{TURN_COMMITS}

-- Each part took the commits of a turn, or as many as there were: the index first, then the hot table. This is where their
-- cursors are, and the receipt tells what is shown after that.
pub record TakesTurn {T : Type 0} (old : Posts T) (index hot : ℕ) (receipt : ReceiptFacts) (new : Posts T) : Type 0 where
  pub between : Posts T
  pub told : ReceiptFacts
  pub index_takes : CatchUpAccepted old Index TURN_COMMITS index told between
  pub hot_takes : CatchUpAccepted between Hot TURN_COMMITS hot receipt new

-- The index was refused its commits, and nothing is posted; or it took them, and the hot table was refused.
pub data TurnRefused {T : Type 0} (g : Ghosts T) (old : Posts T) (why : Refusal) (new : Posts T) : Type 0 where
  index_refused : IsRefused g old IsNoChange (CatchUpJudged TURN_COMMITS) why new → TurnRefused g old why new
  hot_refused : (between : Posts T) (index : ℕ) (told : ReceiptFacts)
      → CatchUpAccepted old Index TURN_COMMITS index told between
      → IsRefused g between IsNoChange (CatchUpJudged TURN_COMMITS) why new → TurnRefused g old why new

-- a part has still to read commits
abbrev pub IsBehind : State → Type 0
IsBehind s = min s.index s.hot < s.newest

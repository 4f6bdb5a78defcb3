-- What the desk may answer to a call, and what it holds after that.
use Rattle.std.specs.Prelude.{ℕ, List, Option}
use Rattle.std.specs.Bool.{MatchBool}
use Rattle.names.specs.declared.call.Call.{Call}
use Rattle.tables.specs.declared.tables.Tables.{Ghosts}
use Rattle.desk.specs.Posts.{Posts}
use Rattle.calls.specs.Changes.{is_change}
use Rattle.calls.specs.steps.Ask.{AskStep}
use Rattle.calls.specs.steps.Change.{ChangeStep}

-- from old, the desk may tell this to the call with this body, and go on to new: as a change, or as a question
abbrev pub DeskStep : {T : Type 0} → Ghosts T → Posts T → Call → List ℕ → Option (ℕ × List ℕ) → Posts T → Type 0
DeskStep g old call body told new = MatchBool (is_change call) (ChangeStep g old call body told new) (AskStep old call body told new)

-- What is answered to a call that asks.
use Rattle.std.specs.Prelude.{ℕ, ◌≡◌, List, Option, option_map}
use Rattle.names.specs.declared.call.Call.{Call}
use Rattle.names.specs.declared.refusal.Refusal.{Refusal}
use Rattle.shown.specs.declared.answer.Refused.{Refused}
use Rattle.shown.specs.declared.question.Question.{Question}
use Rattle.shown.specs.declared.question.Told.{Told}
use Rattle.shown.specs.Standing.{standing}
use Rattle.shown.specs.Asked.{IsTold, RefusesQuestion}
use Rattle.desk.specs.Posts.{Posts}
use Rattle.bodies.specs.Replies.{SaysRefusal, SaysRefusalAt}
use Rattle.calls.specs.Questions.{Asks, AsksNothing, SaysTold}
use Rattle.calls.specs.Showing.{zookie_at, ShowsFor}

-- The body asks nothing, or there was no memory to read it; what it asks is told, or refused, from the steps that are then
-- shown, with zookies of the desk's store.
pub data AskStep {T : Type 0} (old : Posts T) (call : Call) (body : List ℕ) (told : Option (ℕ × List ℕ)) (new : Posts T) : Type 0 where
  asks_nothing : (why : Refusal) → AsksNothing call body why → SaysRefusal told why → new ≡ old → AskStep old call body told new
  is_told : (question : Question) (answer : Told) → Asks call body question → IsTold (standing new.shown) question answer
      → SaysTold (standing old.posted).kept.number answer told → ShowsFor question old new → AskStep old call body told new
  is_refused : (question : Question) (refused : Refused) → Asks call body question → RefusesQuestion (standing new.shown) question refused
      → SaysRefusalAt told refused.why (option_map (zookie_at old) refused.at) → ShowsFor question old new → AskStep old call body told new

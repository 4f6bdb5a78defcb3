-- What a call that asks is answered, of a session alone.
use Rattle.std.specs.Prelude.{ℕ, ◌≡◌, ◌⊎◌, List, Option, option_map, ⊤}
use Rattle.names.specs.Calls.{told as told_by}
use Rattle.names.specs.declared.call.Call.{Call}
use Rattle.names.specs.declared.call.Call.TheVariants.{State}
use Rattle.names.specs.declared.refusal.Refusal.{Refusal}
use Rattle.names.specs.declared.refusal.Refusal.TheVariants.{Future, Reopen}
use Rattle.zookie.specs.Text.{zookie_text}
use Rattle.shown.specs.declared.answer.Refused.{Refused}
use Rattle.shown.specs.declared.question.Question.{Question}
use Rattle.shown.specs.declared.question.Told.{Told as Answered}
use Rattle.shown.specs.declared.step.Step.{Step}
use Rattle.shown.specs.Standing.{standing}
use Rattle.shown.specs.Asked.{IsTold, RefusesQuestion, IsAhead}
use Rattle.published.specs.Known.{Known}
use Rattle.bodies.specs.Replies.{SaysRefusal, SaysRefusalAt}
use Rattle.calls.specs.Questions.{Asks, AsksNothing, SaysTold}
use Rattle.keeper.specs.Kept.{KnowsMore}
use Rattle.keeper.specs.declared.questions.Asked.{Asked}
use Rattle.keeper.specs.declared.questions.Asked.TheVariants.{Told, NotYet}

-- the number of the store whose steps these are
abbrev pub store_of : List Step → ℕ
store_of steps = (standing steps).kept.number

-- The question is told, or refused, by the standing of the steps. That it is of the future is told only where `sought`.
pub data QuestionTold (steps : List Step) (sought : Type 0) (question : Question) (told : Option (ℕ × List ℕ)) : Type 0 where
  told_answer : (answer : Answered)
      → IsTold (standing steps) question answer → SaysTold (store_of steps) answer told
      → QuestionTold steps sought question told
  told_refusal : (refused : Refused)
      → RefusesQuestion (standing steps) question refused → (refused.why ≡ Future → sought)
      → SaysRefusalAt told refused.why (option_map (zookie_text (store_of steps)) refused.at)
      → QuestionTold steps sought question told

-- The body asks nothing, or there was no memory to read it; the question is told of by the steps that the session then knows,
-- which were judged and begin with all that it knew; or no session can ask any more, and it knows what it knew, unless `sought`.
pub data AskFrom (sought : Type 0) (old : Known) (call : Call) (body : List ℕ) (told : Option (ℕ × List ℕ)) (new : Known) : Type 0 where
  from_unasked : (why : Refusal)
      → AsksNothing call body why → SaysRefusal told why → new ≡ old → AskFrom sought old call body told new
  from_asked : (question : Question)
      → Asks call body question → QuestionTold new.steps sought question told → KnowsMore old new
      → AskFrom sought old call body told new
  from_shut : (question : Question)
      → Asks call body question → SaysRefusal told Reopen → (new ≡ old) ⊎ sought → KnowsMore old new
      → AskFrom sought old call body told new

-- asked again, the question is told of, also as of the future; or no session can ask any more
abbrev pub AgainTold : Known → Known → Question → Option (ℕ × List ℕ) → Type 0
AgainTold old new question told = QuestionTold new.steps ⊤ question told ⊎ (SaysRefusal told Reopen × (new ≡ old))

-- what waits is sought for every question but that for the state, which is never of the future
abbrev pub sought_by : Call → Type 0 → Type 0
sought_by State sought = ⊥
sought_by call sought = sought

-- the reply, which is not that the question is of the future; or the question that the body asks, whose revision the session
-- does not know yet
abbrev pub IsAsked : Known → Call → List ℕ → Asked → Known → Type 0
IsAsked old call body (Told reply) new = AskFrom ⊥ old call body (told_by reply) new
IsAsked old call body (NotYet question) new =
    Asks call body question × KnowsMore old new × IsAhead (standing new.steps) question

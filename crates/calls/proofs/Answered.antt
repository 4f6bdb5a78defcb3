-- The answers to a call that asks are steps of the desk.
use Rattle.std.proofs.Common.{◌≡◌, ℕ, List, ap, ◌∙◌, subst}
use Rattle.std.specs.Prelude.{Option, option_map, Result, Ok, Err, IfOk, IfErr}
use Rattle.names.specs.declared.call.Call.{Call}
use Rattle.zookie.specs.Text.{zookie_text}
use Rattle.shown.specs.declared.answer.Refused.{Refused}
use Rattle.shown.specs.declared.question.Question.{Question}
use Rattle.shown.specs.declared.question.Told.{Told}
use Rattle.shown.specs.declared.step.Step.{Step}
use Rattle.shown.specs.Standing.{standing}
use Rattle.shown.specs.Asked.{IsTold, RefusesQuestion}
use Rattle.desk.specs.Posts.{Posts}
use Rattle.bodies.specs.Replies.{SaysRefusalAt}
use Rattle.calls.specs.Questions.{Asks, SaysTold}
use Rattle.calls.specs.Showing.{ShowsFor}
use Rattle.calls.specs.steps.Ask.{AskStep, is_told, is_refused}

module _ {T : Type 0} (old new : Posts T) (call : Call) (body : List ℕ) (question : Question) (store : ℕ) (told : Option (ℕ × List ℕ)) where
  same_store : store ≡ (standing new.posted).kept.number → ShowsFor question old new → store ≡ (standing old.posted).kept.number
  same_store number shows = number ∙ ap (λ (xs : List Step). (standing xs).kept.number) shows.only.shows.posted

  pub asked_step : (r : Result Told Refused) → store ≡ (standing new.posted).kept.number → ShowsFor question old new → Asks call body question
      → IfOk r (IsTold (standing new.shown) question) → IfErr r (RefusesQuestion (standing new.shown) question)
      → IfOk r (λ answer. SaysTold store answer told) → IfErr r (λ refused. SaysRefusalAt told refused.why (option_map (zookie_text store) refused.at))
      → AskStep old call body told new
  asked_step (Ok answer) number shows asks is none says denies =
      is_told question answer asks is (subst (λ (n : ℕ). SaysTold n answer told) (same_store number shows) says) shows
  asked_step (Err refused) number shows asks none is says denies =
      is_refused question refused asks is (subst (λ (n : ℕ). SaysRefusalAt told refused.why (option_map (zookie_text n) refused.at)) (same_store number shows) denies) shows

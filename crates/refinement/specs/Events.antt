-- A desk as a state of the machine of publication, and the events that lead from one state to another.
use Rattle.std.specs.Prelude.{◌≡◌, ℕ, true, List, [], ◌∷◌, length, Result}
use Rattle.shown.specs.declared.answer.Refused.{Refused}
use Rattle.shown.specs.declared.question.Question.{Question}
use Rattle.shown.specs.declared.question.Told.{Told}
use Rattle.shown.specs.declared.step.Step.{Step}
use Rattle.shown.specs.Standing.{standing}
use Rattle.desk.specs.Posts.{Posts}
use Rattle.publication.specs.declared.event.Event.{Event}
use Rattle.publication.specs.declared.event.Event.TheVariants.{Entered}
use Rattle.publication.specs.declared.event.Outcome.TheVariants.{Answered}
use Rattle.publication.specs.World.{State, HasOutcome, can_come, after_coming}

-- what is posted, so many of its steps are shown, and the history of all of them is stored
abbrev pub state_after : List Step → List Step → State
state_after posted shown = record { stored = (standing posted).kept; posted = posted; shown = length shown }

abbrev pub state_of : {T : Type 0} → Posts T → State
state_of desk = state_after desk.posted desk.shown

-- each event can come in its turn, and so the one state becomes the other
abbrev pub Lead : List Event → State → State → Type 0
Lead [] s t = t ≡ s
Lead (event ∷ events) s t = (can_come s event ≡ true) × Lead events (after_coming s event) t

-- some events lead from the one to the other
abbrev pub IsRunTo : State → State → Type 0
IsRunTo s t = (events : List Event) × Lead events s t

-- whatever seat asks the question, it can, and this is what comes of it
abbrev pub AnswersOnEntry : State → Question → Result Told Refused → Type 0
AnswersOnEntry s question reply =
    (seat : ℕ) → (can_come s (Entered seat question) ≡ true) × HasOutcome s (Entered seat question) (Answered s.shown reply)

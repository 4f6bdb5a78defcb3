-- What a session's answers tell.
use Rattle.std.proofs.Common.{◌≡◌, ℕ, List, subst, inl, inr}
use Rattle.std.specs.Prelude.{◌⊎◌, Option, option_map, Result, Ok, Err, IfOk, IfErr, ⊤}
use Rattle.names.specs.declared.call.Call.{Call}
use Rattle.names.specs.declared.refusal.Refusal.TheVariants.{Future}
use Rattle.zookie.specs.Text.{zookie_text}
use Rattle.shown.specs.declared.answer.Refused.{Refused}
use Rattle.shown.specs.declared.question.Question.{Question}
use Rattle.shown.specs.declared.question.Told.{Told as Answered}
use Rattle.shown.specs.declared.step.Step.{Step}
use Rattle.shown.specs.Standing.{standing}
use Rattle.shown.specs.Asked.{IsTold, RefusesQuestion}
use Rattle.published.specs.Known.{Known}
use Rattle.bodies.specs.Replies.{SaysRefusalAt}
use Rattle.calls.specs.Questions.{Asks, SaysTold}
use Rattle.keeper.specs.Kept.{KnowsMore}
use Rattle.keeper.specs.declared.questions.Asked.{Asked}
use Rattle.keeper.specs.declared.questions.Asked.TheVariants.{Told, NotYet}
use Rattle.keeper.specs.Questions.{QuestionTold, told_answer, told_refusal, AskFrom, from_unasked, from_asked, from_shut, AgainTold, IsAsked}
use Rattle.keeper.proofs.Kept.{Keeps, knows_more_trans}

-- the question was asked, of a store with this number
pub asked_told : {sought : Type 0} (steps : List Step) (question : Question) (number : ℕ) (asked : Result Answered Refused) (told : Option (ℕ × List ℕ))
    → number ≡ (standing steps).kept.number
    → IfOk asked (IsTold (standing steps) question) → IfErr asked (RefusesQuestion (standing steps) question)
    → IfOk asked (λ answer. SaysTold number answer told)
    → IfErr asked (λ refused. SaysRefusalAt told refused.why (option_map (zookie_text number) refused.at))
    → IfErr asked (λ refused. refused.why ≡ Future → sought)
    → QuestionTold steps sought question told
asked_told steps question number (Ok answer) told is ok err says denies ahead =
    told_answer answer ok (subst (λ (n : ℕ). SaysTold n answer told) is says)
asked_told steps question number (Err refused) told is ok err says denies ahead =
    told_refusal refused err ahead (subst (λ (n : ℕ). SaysRefusalAt told refused.why (option_map (zookie_text n) refused.at)) is denies)

-- what is known only goes on
pub from_later : {sought : Type 0} (old : Known) (call : Call) (body : List ℕ) (told : Option (ℕ × List ℕ)) (new : Known) → AskFrom sought old call body told new → Keeps old new
from_later old call body told new (from_unasked why cause says same) = inl same
from_later old call body told new (from_asked question asks is later) = inr later
from_later old call body told new (from_shut question asks says stays later) = inr later

pub asked_later : (old : Known) (call : Call) (body : List ℕ) (asked : Asked) (new : Known) → IsAsked old call body asked new → Keeps old new
asked_later old call body (Told reply) new is = from_later old call body _ new is
asked_later old call body (NotYet question) new is = inr is.1

-- what is told stays so where more was sought
told_when : {A B : Type 0} (steps : List Step) (question : Question) (told : Option (ℕ × List ℕ)) → (A → B) → QuestionTold steps A question told → QuestionTold steps B question told
told_when steps question told more (told_answer answer is says) = told_answer answer is says
told_when steps question told more (told_refusal refused refuses ahead says) = told_refusal refused refuses (λ is. more (ahead is)) says

unless_sought : {A : Type 0} (old new : Known) → (new ≡ old) ⊎ ⊥ → (new ≡ old) ⊎ A
unless_sought old new (inl same) = inl same
unless_sought old new (inr none) = absurd none

pub alone : {sought : Type 0} (old : Known) (call : Call) (body : List ℕ) (told : Option (ℕ × List ℕ)) (new : Known) → AskFrom ⊥ old call body told new → AskFrom sought old call body told new
alone old call body told new (from_unasked why cause says same) = from_unasked why cause says same
alone old call body told new (from_asked question asks is later) = from_asked question asks (told_when {A = ⊥} new.steps question told (λ none. absurd none) is) later
alone old call body told new (from_shut question asks says stays later) = from_shut question asks says (unless_sought old new stays) later

-- the question was asked once more
pub asked_again : {sought : Type 0} (old mid more : Known) (call : Call) (body : List ℕ) (told : Option (ℕ × List ℕ)) (new : Known) (question : Question)
    → Asks call body question → KnowsMore old mid → KnowsMore mid more → KnowsMore more new → AgainTold more new question told → sought → AskFrom sought old call body told new
asked_again old mid more call body told new question asks first second third (inl is) is_sought =
    from_asked question asks (told_when {A = ⊤} new.steps question told (λ _. is_sought) is) (knows_more_trans old mid new first (knows_more_trans mid more new second third))
asked_again old mid more call body told new question asks first second third (inr shut) is_sought =
    from_shut question asks shut.0 (inr is_sought) (knows_more_trans old mid new first (knows_more_trans mid more new second third))

-- Whether a question is refused as one of the future.
use Rattle.std.proofs.Common.{◌≡◌, ℕ, Bool, true, false, List}
use Rattle.std.proofs.lemmas.Bool.{iff_false}
use Rattle.std.specs.Prelude.{◌↔◌, Result, Ok, Err, IfErr, ⊤}
use Rattle.names.specs.declared.call.Call.{Call}
use Rattle.names.specs.declared.call.Call.TheVariants.{State}
use Rattle.names.specs.declared.refusal.Refusal.TheVariants.{Future}
use Rattle.shown.specs.declared.answer.Refused.{Refused}
use Rattle.shown.specs.declared.question.Question.{Question}
use Rattle.shown.specs.declared.question.Question.TheVariants as asked
use Rattle.shown.specs.Standing.{Standing}
use Rattle.shown.specs.Asked.{IsAhead}
use Rattle.calls.specs.Questions.{Asks}
use Rattle.keeper.specs.Questions.{sought_by}

module _ {A : Type 0} where
  -- it is not
  pub never_ahead : (r : Result A Refused) (future : Bool) → IfErr r (λ refused. (future ≡ true) ↔ (refused.why ≡ Future)) → future ≡ false → IfErr r (λ refused. refused.why ≡ Future → ⊥)
  never_ahead (Ok found) future when unmet = tt
  never_ahead (Err refused) future when unmet = iff_false when unmet

  -- it may be
  pub maybe_ahead : (r : Result A Refused) → IfErr r (λ refused. refused.why ≡ Future → ⊤)
  maybe_ahead (Ok found) = tt
  maybe_ahead (Err refused) = λ _. tt

-- that for the state is not
state_is_not_ahead : {A : Type 0} (s : Standing) (body : List ℕ) (question : Question) → Asks State body question → IsAhead s question → A
state_is_not_ahead s body asked.State asks ahead = absurd ahead.refuses
state_is_not_ahead s body _ asks ahead = absurd asks

-- so what waits is sought for any other
pub sought : {A : Type 0} (s : Standing) (call : Call) (body : List ℕ) (question : Question) → Asks call body question → IsAhead s question → A → sought_by call A
sought s State body question asks ahead a = state_is_not_ahead s body question asks ahead
sought s _ body question asks ahead a = a

-- A question that is told or refused is one that entered.
use Rattle.std.proofs.Common.{◌≡◌, ◌≤◌, List, [], ◌∷◌, length, take, refl, ap, sym, ◌∙◌, subst, arith}
use Rattle.std.specs.Prelude.{Result}
use Rattle.std.proofs.Math.Seq.{take-append_seam}
use mathlib.Core.Bool.{true≢false}
use mathlib.Core.List.{IsPrefix}
use Rattle.shown.specs.declared.answer.Refused.{Refused}
use Rattle.shown.specs.declared.question.Question.{Question}
use Rattle.shown.specs.declared.question.Told.{Told}
use Rattle.shown.specs.declared.step.Step.{Step}
use Rattle.published.specs.Judged.{AreJudged}
use Rattle.publication.specs.World.{IsReply}
use Rattle.refinement.specs.Events.{state_after, AnswersOnEntry}
use Rattle.refinement.proofs.Leading.{reaches}

some_shown : (shown : List Step) → AreJudged shown → 1 ≤ length shown
some_shown [] none = absurd none
some_shown (first ∷ steps) are = omega arith

pub enters : (posted shown : List Step) (question : Question) (reply : Result Told Refused) → AreJudged shown → IsPrefix shown posted → IsReply shown question reply
    → AnswersOnEntry (state_after posted shown) question reply
enters posted shown question reply are beginning is seat =
    let can = reaches 1 (length shown) (some_shown shown are) in
    let these : take (length shown) posted ≡ shown = ap (take (length shown)) (sym beginning.1) ∙ take-append_seam shown beginning.0 in
    (can, record { comes = λ _. (refl, subst (λ (xs : List Step). IsReply xs question reply) (sym these) is); cannot = λ not. absurd (true≢false (sym can ∙ not)) })

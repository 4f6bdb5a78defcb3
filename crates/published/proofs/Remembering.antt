-- Answers that a session keeps stay right, and so does one more.
use Rattle.std.proofs.Common.{◌≡◌, ℕ, ◌≤◌, Bool, ◌⊎◌, List, ap, sym, subst, ◌∙◌, arith, ⊎_elim}
use Rattle.std.specs.Prelude.{Contains, Result, Ok, Err, IfOk, MatchBool, true}
use mathlib.Core.List.{IsPrefix}
use Rattle.names.specs.declared.object.Object.{Object}
use Rattle.names.specs.declared.node.Node.{Node}
use Rattle.meaning.specs.Snap.{Snap}
use Rattle.decide.specs.Answers.{IsAnswer}
use Rattle.answer_cache.specs.declared.question.Question.{Question}
use Rattle.answer_cache.specs.Questions.{question}
use Rattle.rows.specs.Retained.{Retained, IsRetained, snap_at}
use Rattle.shown.specs.declared.answer.Answer.{Answer}
use Rattle.shown.specs.declared.answer.Refused.{Refused}
use Rattle.shown.specs.declared.step.Step.{Step}
use Rattle.shown.specs.declared.question.Question as asked
use Rattle.shown.specs.declared.question.Question.TheVariants.{Check}
use Rattle.shown.specs.declared.question.Told.{Told}
use Rattle.shown.specs.declared.question.Told.TheVariants.{Checked}
use Rattle.shown.specs.Answers as check
use Rattle.shown.specs.Asked.{IsTold}
use Rattle.shown.specs.KeptAnswers.{IsRetainedAnswer, AreRetainedAnswers}
use Rattle.shown.specs.Standing.{Standing, standing}
use Rattle.zookie.specs.declared.consistency.Consistency.{Consistency}
use Rattle.published.specs.Judged.{AreJudged}
use Rattle.published.specs.Rising.{Rises}
use Rattle.published.proofs.Rising.{rise}

-- after later steps
still_right : (r s : Retained) (q : Question) (b : Bool) → Rises r s → IsRetainedAnswer r q b → IsRetainedAnswer s q b
still_right r s q b rises was = record {
  there = omega (arith, was.there, rises.newest_there);
  right = λ above.
      let below : r.floor ≤ q.revision = omega (arith, above, rises.floor) in
      let earlier : IsRetained r q.revision = record { not_below = below; not_above = was.there } in
      let later : IsRetained s q.revision = record { not_below = above; not_above = omega (arith, was.there, rises.newest_there) } in
      subst (λ (S : Snap). IsAnswer S q.user q.node b) (sym (rises.snaps q.revision earlier later)) (was.right below);
}

pub still_kept : (before after : List Step) (kept : List (Question × Bool)) → AreJudged before → AreJudged after → IsPrefix before after
    → AreRetainedAnswers (standing before).kept kept → AreRetainedAnswers (standing after).kept kept
still_kept before after kept one other on are q b has =
    still_right (standing before).kept (standing after).kept q b (rise before after one other on) (are q b has)

-- one more
one_more : (r : Retained) (rev : ℕ) (n : Node) (u : Object) (b : Bool) → IsRetained r rev → IsAnswer (snap_at r rev) u n b → IsRetainedAnswer r (question rev n u) b
one_more r rev n u b retained right = record { there = retained.not_above; right = λ above. right }

pub kept_with : (r : Retained) (rev : ℕ) (n : Node) (u : Object) (b : Bool) (old new : List (Question × Bool)) → IsRetained r rev → IsAnswer (snap_at r rev) u n b
    → ((q : Question) (a : Bool) → Contains new (q, a) → ((q ≡ question rev n u) × (a ≡ b)) ⊎ Contains old (q, a)) → AreRetainedAnswers r old → AreRetainedAnswers r new
kept_with r rev n u b old new retained right no_other are q a has = ⊎_elim
    (λ (this : (q ≡ question rev n u) × (a ≡ b)).
    subst (λ (e : Question × Bool). IsRetainedAnswer r e.0 e.1) (sym (ap (λ x. (x, a)) this.0 ∙ ap (λ x. (question rev n u, x)) this.1)) (one_more r rev n u b retained right))
    (λ (was : Contains old (q, a)). are q a was)
    (no_other q a has)

-- what a check was answered can be kept
pub can_be_kept : (s : Standing) (question : asked.Question) (r : Result Told Refused) (told : Told) (consistency : Consistency) (n : Node) (u : Object) (answer : Answer Bool)
    → r ≡ Ok told → question ≡ Check consistency n u → told ≡ Checked answer → IfOk r (IsTold s question)
    → IsRetained s.kept answer.rev × IsAnswer (snap_at s.kept answer.rev) u n answer.value
can_be_kept s question r told consistency n u answer tells asks checks is =
    let of_told : IsTold s question told = subst (λ (r : Result Told Refused). IfOk r (IsTold s question)) tells is in
    let of_check : IsTold s (Check consistency n u) told = subst (λ (q : asked.Question). IsTold s q told) asks of_told in
    let checked : check.IsAnswer s consistency n u answer = subst (IsTold s (Check consistency n u)) checks of_check in
    (record { not_below = checked.asked.fits.0; not_above = checked.asked.fits.1 }, checked.meaning)

-- in the branch that a test chose
pub begun : {P : Type 0} (Q : Type 0) (t : Bool) → t ≡ true → MatchBool t P Q → P
begun {P = P} Q t is known = subst (λ (b : Bool). MatchBool b P Q) is known

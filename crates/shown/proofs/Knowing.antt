-- What is kept of earlier checks, at one revision.
use Rattle.std.proofs.Common.{ℕ, Bool, List, sym, subst}
use Rattle.std.specs.Prelude.{◌≡◌, Option, Some, None, IfSome}
use Rattle.meaning.specs.Snap.{Snap}
use Rattle.answer_cache.specs.declared.question.Question.{Question}
use Rattle.answer_cache.specs.Kept.{AreAnswersAt}
use Rattle.answer_cache.specs.Questions.{question}
use Rattle.rows.specs.Retained.{Retained, IsRetained, snap_at}
use Rattle.shown.specs.KeptAnswers.{AreRetainedAnswers}

at_revision : (r : Retained) (rev : ℕ) (S : Snap) (kept : List (Question × Bool)) → S ≡ snap_at r rev → IsRetained r rev → AreRetainedAnswers r kept → AreAnswersAt kept rev S
at_revision r rev S kept is retained are = subst (AreAnswersAt kept rev) (sym is) (λ n u b has. (are (question rev n u) b has).right retained.not_below)

pub where_kept : {A : Type 0} (now : A → List (Question × Bool)) (r : Retained) (rev : ℕ) (S : Snap) (kept : Option A) → S ≡ snap_at r rev → IsRetained r rev
    → IfSome kept (λ k. AreRetainedAnswers r (now k)) → IfSome kept (λ k. AreAnswersAt (now k) rev S)
where_kept now r rev S None is retained are = tt
where_kept now r rev S (Some k) is retained are = at_revision r rev S (now k) is retained are

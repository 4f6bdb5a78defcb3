-- Answers of earlier checks, as one who asks again may bring them.
use Rattle.std.specs.Prelude.{◌≤◌, Bool, List, Contains}
use Rattle.decide.specs.Answers.{IsAnswer}
use Rattle.answer_cache.specs.declared.question.Question.{Question}
use Rattle.rows.specs.Retained.{Retained, newest, snap_at}

-- the answer is of a revision that is there, and as long as that is retained, it is right of what it holds
pub record IsRetainedAnswer (r : Retained) (q : Question) (answer : Bool) : Type 0 where
  pub there : q.revision ≤ newest r
  pub right : r.floor ≤ q.revision → IsAnswer (snap_at r q.revision) q.user q.node answer

-- so it is with each that is kept
abbrev pub AreRetainedAnswers : Retained → List (Question × Bool) → Type 0
AreRetainedAnswers r kept = (q : Question) (answer : Bool) → Contains kept (q, answer) → IsRetainedAnswer r q answer

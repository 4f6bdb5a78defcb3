-- What a copy of a snapshot is.
use Rattle.std.specs.Prelude.{◌≡◌, ℕ}
use Rattle.meaning.specs.Snap.{Snap}
use Rattle.rows.specs.Retained.{snap_at}
use Rattle.zookie.specs.declared.consistency.Consistency.{Consistency}
use Rattle.shown.specs.declared.answer.Answer.{Answer}
use Rattle.shown.specs.Standing.{Standing}
use Rattle.shown.specs.Answers.{IsAskedAt}

-- it is of a revision that fits, and has the configuration and the tuples there
pub record IsCopy (s : Standing) (consistency : Consistency) (rev : ℕ) (copied : Snap) : Type 0 where
  pub asked_at : IsAskedAt s consistency rev
  pub snap : copied ≡ snap_at s.kept rev

-- so is the answer, at the revision that it names
abbrev pub IsCopied : Standing → Consistency → Answer Snap → Type 0
IsCopied s consistency answer = IsCopy s consistency answer.rev answer.value

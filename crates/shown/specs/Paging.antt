-- What a read is answered, and why it is refused.
use Rattle.std.specs.Prelude.{◌≡◌, ℕ, List, Option, None}
use Rattle.names.specs.declared.tuple.Tuple.{Tuple}
use Rattle.names.specs.declared.refusal.Refusal.{Refusal}
use Rattle.names.specs.declared.refusal.Refusal.TheVariants.{Memory}
use Rattle.rows.specs.Retained.{newest, snap_at}
use Rattle.rows.specs.Tuplesets.{page}
use Rattle.rows.specs.declared.tupleset.Tupleset.{Tupleset}
use Rattle.zookie.specs.declared.consistency.Consistency.{Consistency}
use Rattle.zookie.specs.Fits.{IsFirstCause}
use Rattle.shown.specs.declared.answer.Answer.{Answer}
use Rattle.shown.specs.declared.answer.Refused.{Refused}
use Rattle.shown.specs.Standing.{Standing}
use Rattle.shown.specs.Answers.{IsAskedAt}

-- the answer is at a revision that fits, and is the page of the tupleset there: the stored tuples alone, no rewrite is followed
pub record IsRead (s : Standing) (consistency : Consistency) (asked : Tupleset) (rev : ℕ) (found : List Tuple) : Type 0 where
  pub asked_at : IsAskedAt s consistency rev
  pub page_there : found ≡ page asked (snap_at s.kept rev).tuples

-- the first cause of the zookie; or there was no memory
abbrev pub ReadRefused : Standing → Consistency → Refusal → Option ℕ → Type 0
ReadRefused s consistency Memory at = at ≡ None
ReadRefused s consistency why at =
    IsFirstCause consistency s.kept.number s.kept.floor (newest s.kept) why × (at ≡ None)

-- the answer is such a page, at the revision that it names
abbrev pub IsPage : Standing → Consistency → Tupleset → Answer (List Tuple) → Type 0
IsPage s consistency asked answer = IsRead s consistency asked answer.rev answer.value

-- the question is refused for this, and no revision is named
abbrev pub IsPageRefusal : Standing → Consistency → Refused → Type 0
IsPageRefusal s consistency refused = ReadRefused s consistency refused.why refused.at

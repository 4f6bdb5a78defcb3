-- What later steps leave of a history.
use Rattle.std.specs.Prelude.{◌≡◌, ◌≤◌, ℕ, List}
use mathlib.Core.List.{IsPrefix}
use Rattle.rows.specs.Retained.{Retained, IsRetained, newest, snap_at}
use Rattle.shown.specs.declared.step.Step.{Step}
use Rattle.shown.specs.Standing.{standing}
use Rattle.published.specs.Judged.{AreJudged}

-- The later history is of the same store. Neither its floor nor its newest revision is lower, and what both retain is the
-- same.
pub record Rises (earlier later : Retained) : Type 0 where
  pub number : later.number ≡ earlier.number
  pub floor : earlier.floor ≤ later.floor
  pub newest_there : newest earlier ≤ newest later
  pub snaps : (rev : ℕ) → IsRetained earlier rev → IsRetained later rev → snap_at later rev ≡ snap_at earlier rev

-- where judged steps begin with others that were judged
abbrev pub RevisionsRise : Type 0
RevisionsRise = (before after : List Step) → AreJudged before → AreJudged after → IsPrefix before after
    → Rises (standing before).kept (standing after).kept

-- What was read, answered and written when a connection ends.
use Rattle.std.specs.Prelude.{ℕ, ◌⊎◌, List}
use Rattle.answers.specs.declared.end.End.{End}
use Rattle.answers.specs.declared.end.End.TheVariants.{Closed, Broken}
use Rattle.answers.specs.Machine.{Step}
use Rattle.tracked_io.specs.Wrote.{Taken, Took, WroteSome}
use Rattle.tracked_io.specs.Tracking.{TrackedReading, AtEachRead}
use Rattle.http_api.specs.Connection.{Next, stop, Text, IsFew}

-- the text of the connection over this input was written, and it ends so; no more was read for its last turn than that may want
pub record Talked {S : Type 0} (step : Step S) (s : S) (held : Taken) (input : List ℕ) (t : S) (holds : Taken) (end : End) : Type 0 where
  pub text : List ℕ
  pub is_text : Text step s input text t (stop end)
  pub few : IsFew is_text.rest
  pub wrote : Took held holds text

-- the text of the connection over this input was written, as if the input had ended here
abbrev pub TalkedSoFar : {S : Type 0} → Step S → S → Taken → List ℕ → S → Taken → Type 0
TalkedSoFar step s held input t holds = Talked step s held input t holds Closed ⊎ Talked step s held input t holds Broken

-- a beginning was written of the text of the first requests in this input
pub record TalkCut {S : Type 0} (step : Step S) (s : S) (held : Taken) (input : List ℕ) (t : S) (holds : Taken) : Type 0 where
  pub text : List ℕ
  pub next : Next
  pub is_text : Text step s input text t next
  pub few : IsFew is_text.rest
  pub wrote : WroteSome held holds text

-- at each read, the text of the connection over what was read before had been written, as if the input had ended there, and handed on
abbrev pub TalkedAtEachRead : {S R : Type 0} → Step S → S → Taken → TrackedReading R → TrackedReading R → Type 0
TalkedAtEachRead {S} step s held old new = AtEachRead (λ input holds. (t : S) × TalkedSoFar step s held input t holds) old new

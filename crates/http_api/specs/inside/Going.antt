-- A connection that has come so far.
use Rattle.std.specs.Prelude.{ℕ, ◌≡◌, List, false, Option}
use Rattle.tracked_io.specs.Tracking.{TrackedReading, TrackedWriting, Reads, ReadsAll}
use Rattle.tracked_io.specs.Waiting.{Waited}
use Rattle.tracked_io.specs.Wrote.{Taken, Took}
use Rattle.answers.specs.declared.end.End.{End}
use Rattle.answers.specs.declared.end.End.TheVariants.{Closed, Asked, Broken, ReadFault, WriteFault, Memory}
use Rattle.answers.specs.Machine.{Step}
use Rattle.http_api.specs.Connection.{Goes}
use Rattle.http_api.specs.Talks.{Talked, TalkedSoFar, TalkCut}

-- the machine, the reader and the writer
abbrev pub State : Type 0 → Type 0 → Type 0 → Type 0
State S R W = S × TrackedReading R × TrackedWriting W

-- the text of the connection over this input was taken, as if the input had ended here
abbrev pub IsTalked : {S W : Type 0} → Step S → S → TrackedWriting W → List ℕ → Taken → Type 0
IsTalked {S} step s writer input holds = (t : S) × TalkedSoFar step s writer.taken input t holds

-- so many requests were answered and their replies written, and these bytes wait
pub record Going {S R W : Type 0} (step : Step S) (remaining : R → Option (List ℕ)) (first : State S R W) (count : ℕ) (waiting : List ℕ) (now : State S R W) : Type 0 where
  pub input : List ℕ
  pub text : List ℕ
  pub reads : Reads remaining first.1 now.1 input
  pub waited : Waited (IsTalked step first.0 first.2) first.1.reads now.1.reads input
  pub goes : Goes step first.0 1 count input waiting text now.0
  pub wrote : Took first.2.taken now.2.taken text
  pub reader_works : now.1.failed ≡ false
  pub writer_works : now.2.failed ≡ false

-- what was read, answered and written where a connection ends so, but for want of memory at its beginning
abbrev pub Finished : {S R W : Type 0} → Step S → (R → Option (List ℕ)) → State S R W → State S R W → End → Type 0
Finished step remaining (s, reader, writer) (t, read, written) Closed = (input : List ℕ) × ReadsAll remaining reader read input × Talked step s writer.taken input t written.taken Closed
Finished step remaining (s, reader, writer) (t, read, written) Broken = (input : List ℕ) × ReadsAll remaining reader read input × Talked step s writer.taken input t written.taken Broken
Finished step remaining (s, reader, writer) (t, read, written) Asked = (input : List ℕ) × Reads remaining reader read input × Talked step s writer.taken input t written.taken Asked
Finished step remaining (s, reader, writer) (t, read, written) Memory = (input : List ℕ) × Reads remaining reader read input × Talked step s writer.taken input t written.taken Memory
Finished step remaining (s, reader, writer) (t, read, written) ReadFault = (input : List ℕ) × Reads remaining reader read input × TalkedSoFar step s writer.taken input t written.taken
Finished step remaining (s, reader, writer) (t, read, written) WriteFault = (input : List ℕ) × Reads remaining reader read input × TalkCut step s writer.taken input t written.taken

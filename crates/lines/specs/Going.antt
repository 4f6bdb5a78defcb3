-- A loop over lines that has come so far.
use Rattle.std.specs.Prelude.{ℕ, ◌≡◌, ◌++◌, List, length, take, nat_le, Result, MatchResult}
use Rattle.std.specs.List.{AllByRecursion, flat_map}
use Rattle.lines.specs.Text.{lines_of, ended, HasNoEnd}
use Rattle.names.specs.declared.limits.TheConstants.{MAX_BODY_LEN}
use Rattle.names.specs.Calls.{call_of}
use Rattle.answers.specs.Machine.{Step}
use Rattle.lines.specs.Machine.{IsAnswer, Run}
use Rattle.tracked_io.specs.Wrote.{Taken, WroteSome}
use Rattle.lines.specs.Served.{Paused, Served}
use Rattle.lines.specs.PendingLine.{PendingLine, pending_of}
use Rattle.tracked_io.specs.Tracking.{TrackedWriting}

-- from s, this text may be written for what is pending of a line, and the machine goes on to t
abbrev pub AnswersPending : {S : Type 0} → Step S → S → PendingLine → List ℕ → S → Type 0
AnswersPending step s line text t = IsAnswer step s (nat_le (length line.body) MAX_BODY_LEN) (call_of line.word) line.body text t

-- the lines that end in the input were answered, and this is what is pending of the line that it ends in
pub record Going {S : Type 0} (step : Step S) (s : S) (held : Taken) (input : List ℕ) (line : PendingLine) (t : S) (holds : Taken) : Type 0 where
  pub paused : Paused step s held input t holds
  pub pending_is : line ≡ pending_of paused.0

-- some first lines that end in the input were answered, and a beginning of the answers written
pub record CutShort {S : Type 0} (step : Step S) (s : S) (held : Taken) (input : List ℕ) (t : S) (holds : Taken) : Type 0 where
  pub more : List ℕ
  pub text : List ℕ
  pub lines : List (List ℕ)
  pub split : input ≡ flat_map ended lines ++ more
  pub whole : AllByRecursion HasNoEnd lines
  pub run : Run step s lines text t
  pub wrote : WroteSome held holds text

-- the first lines of an input that has ended were answered, and a beginning of the answers written
pub record CutAtEnd {S : Type 0} (step : Step S) (s : S) (held : Taken) (input : List ℕ) (t : S) (holds : Taken) : Type 0 where
  pub count : ℕ
  pub text : List ℕ
  pub run : Run step s (take count (lines_of input)) text t
  pub wrote : WroteSome held holds text

-- a loop that has come so far, with this line, machine and writer, goes on after these bytes with the others, or a write failed
abbrev pub GoesOn : {S W E : Type 0} → Step S → Result (Unit {0}) E → PendingLine × S × TrackedWriting W → List ℕ → PendingLine × S × TrackedWriting W → Type 0
GoesOn {S} step result (line, t, writer) bytes (line_after, u, writer_after) =
    (s : S) (held : Taken) (input : List ℕ) → Going step s held input line t writer.taken
    → MatchResult result (λ _. Going step s held (input ++ bytes) line_after u writer_after.taken) (λ _. CutShort step s held (input ++ bytes) u writer_after.taken)

-- a loop that has come so far serves all of its input by this, or a write failed
abbrev pub ServesRest : {S W E : Type 0} → Step S → Result (Unit {0}) E → PendingLine × S × TrackedWriting W → S × TrackedWriting W → Type 0
ServesRest {S} step result (line, t, writer) (u, writer_after) =
    (s : S) (held : Taken) (input : List ℕ) → Going step s held input line t writer.taken
    → MatchResult result (λ _. Served step s held input u writer_after.taken) (λ _. CutAtEnd step s held input u writer_after.taken)

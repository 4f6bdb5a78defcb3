-- A connection that goes on reading, or ends before a request has come whole.
use Rattle.std.specs.Prelude.{ℕ, ◌≡◌, ◌⊎◌, ◌≤◌, ◌+◌, ◌++◌, List, [], length, true, false, Option}
use Rattle.std.specs.Io.KnownBytes.{IsAtEnd}
use Rattle.tracked_io.specs.Tracking.{TrackedReading, TrackedWriting, Reads}
use Rattle.tracked_io.specs.Waiting.{Waited}
use Rattle.tracked_io.specs.Wrote.{Taken, Took, WroteSome}
use Rattle.answers.specs.declared.end.End.{End}
use Rattle.answers.specs.declared.end.End.TheVariants.{Closed, Asked, Broken, ReadFault, WriteFault, Memory}
use Rattle.http_api.specs.declared.looking.Heading.{Heading}
use Rattle.http_api.specs.Heads.{max_head}
use Rattle.answers.specs.Ends.{is_read_fault, is_write_fault}
use Rattle.http_api.specs.Connection.{NoRequest, IsFew}

-- the end of an input that stops
abbrev pub IsPause : End → Type 0
IsPause end = (end ≡ Closed) ⊎ (end ≡ Broken)

-- the input has no whole request at its front, and what is to be written for it was, or a beginning of it
abbrev pub EndsSo : List ℕ → Taken → Taken → End → Type 0
EndsSo input had has Closed = NoRequest input [] Closed × Took had has []
EndsSo input had has Broken = NoRequest input [] Broken × Took had has []
EndsSo input had has Asked = (text : List ℕ) × NoRequest input text Asked × Took had has text
EndsSo input had has ReadFault = (end : End) × IsPause end × NoRequest input [] end × Took had has []
EndsSo input had has WriteFault = (end : End) × (text : List ℕ) × NoRequest input text end × WroteSome had has text
EndsSo input had has Memory = ⊥

-- what was handed on, and whether the writer failed
pub record HandedOn {W : Type 0} (writer : TrackedWriting W) (end : End) : Type 0 where
  pub failed : writer.failed ≡ is_write_fault end
  pub flushed : writer.failed ≡ false → writer.flushed ≡ true

-- after this reply, handed on, the connection is closed; or the writer failed
abbrev pub EndsAfter : {W : Type 0} → List ℕ → TrackedWriting W → TrackedWriting W → End → Type 0
EndsAfter text old new end = HandedOn new end
    × (((end ≡ Asked) × Took old.taken new.taken text) ⊎ ((end ≡ WriteFault) × WroteSome old.taken new.taken text))

-- the bytes that wait, the reader and the writer
abbrev pub Place : Type 0 → Type 0 → Type 0
Place R W = List ℕ × TrackedReading R × TrackedWriting W

-- these bytes are no whole request, and nothing is to be written for them yet
abbrev pub IsUnfinished : List ℕ → Type 0
IsUnfinished waiting = (end : End) × IsPause end × NoRequest waiting [] end × IsFew waiting

-- behind what waited, this input makes no whole request, and the writer took nothing more
abbrev pub WaitsBehind : List ℕ → Taken → List ℕ → Taken → Type 0
WaitsBehind waiting held input holds = IsUnfinished (waiting ++ input) × (holds ≡ held)

-- more was read, which waits behind what waited, and nothing was written
pub record ReadOn {R W : Type 0} (remaining : R → Option (List ℕ)) (old new : Place R W) : Type 0 where
  pub more : List ℕ
  pub reads : Reads remaining old.1 new.1 more
  pub waited : Waited (WaitsBehind old.0 old.2.taken) old.1.reads new.1.reads more
  pub holds : new.0 ≡ old.0 ++ more
  pub keeps : new.2.taken ≡ old.2.taken
  pub reader_works : new.1.failed ≡ false
  pub writer_works : new.2.failed ≡ false

-- the connection ended before a request had come whole
pub record Ended {R W : Type 0} (remaining : R → Option (List ℕ)) (old : Place R W)
    (reader : TrackedReading R) (writer : TrackedWriting W) (end : End) : Type 0 where
  pub more : List ℕ
  pub reads : Reads remaining old.1 reader more
  pub waited : Waited (WaitsBehind old.0 old.2.taken) old.1.reads reader.reads more
  pub all : IsPause end → IsAtEnd (remaining reader.inner)
  pub ends : EndsSo (old.0 ++ more) old.2.taken writer.taken end
  pub few : IsFew (old.0 ++ more)
  pub reader_failed : reader.failed ≡ is_read_fault end
  pub handed_on : HandedOn writer end

-- no more waits than a head may have, or than this head and its body
abbrev pub IsFewFor : Heading → List ℕ → Type 0
IsFewFor heading waiting = (length waiting ≤ max_head) ⊎ (length waiting ≤ heading.head + heading.body)

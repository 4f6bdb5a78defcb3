-- What was read, answered and written over the two sides of a connection.
use Rattle.std.specs.Prelude.{ℕ, ◌≡◌, ◌⊎◌, List, [], Option, false}
use Rattle.tracked_io.specs.Tracking.{TrackedReading, Reads, ReadsAll}
use Rattle.tracked_io.specs.Wrote.{Taken}
use Rattle.answers.specs.declared.end.End.{End}
use Rattle.answers.specs.declared.end.End.TheVariants.{Closed, Asked, Broken, ReadFault, WriteFault, Memory}
use Rattle.answers.specs.Machine.{Step}
use Rattle.http_api.specs.Talks.{Talked, TalkedSoFar, TalkCut}

-- a reader that begins to be tracked, of which nothing was read
abbrev pub unread : {R : Type 0} → R → TrackedReading R
unread reader = record { inner = reader; failed = false; turns = 0; reads = [] }

-- A connection over this reader, and a writer that held this at first, took the machine from s to t and ended so. All that was there
-- was read and each request answered, perhaps but for a last one that breaks off; or the last reply says that the connection is
-- closed. Where a read failed, each whole request was answered; where a write failed, some first ones were. For want of memory
-- nothing was done, or a last reply could not be made.
abbrev pub TalkedOver : {S R : Type 0} → Step S → (R → Option (List ℕ)) → R → Taken → S → End → S → TrackedReading R → Taken → Type 0
TalkedOver step remaining reader held s Closed t read holds = (input : List ℕ) × ReadsAll remaining (unread reader) read input × Talked step s held input t holds Closed
TalkedOver step remaining reader held s Broken t read holds = (input : List ℕ) × ReadsAll remaining (unread reader) read input × Talked step s held input t holds Broken
TalkedOver step remaining reader held s Asked t read holds = (input : List ℕ) × Reads remaining (unread reader) read input × Talked step s held input t holds Asked
TalkedOver step remaining reader held s ReadFault t read holds = (input : List ℕ) × Reads remaining (unread reader) read input × TalkedSoFar step s held input t holds
TalkedOver step remaining reader held s WriteFault t read holds = (input : List ℕ) × Reads remaining (unread reader) read input × TalkCut step s held input t holds
TalkedOver step remaining reader held s Memory t read holds = ((read.inner ≡ reader) × (read.reads ≡ []) × (holds ≡ held) × (t ≡ s))
    ⊎ ((input : List ℕ) × Reads remaining (unread reader) read input × Talked step s held input t holds Memory)

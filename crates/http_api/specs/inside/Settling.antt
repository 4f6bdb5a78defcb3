-- How a request that has come whole is settled.
use Rattle.std.specs.Prelude.{ℕ, ◌≡◌, List, Bool, true, false, Result, Ok, Err}
use Rattle.httparse.specs.Grammar.{RequestHead}
use Rattle.tracked_io.specs.Tracking.{TrackedWriting}
use Rattle.tracked_io.specs.Wrote.{Taken, Took, WroteSome}
use Rattle.answers.specs.declared.end.End.{End}
use Rattle.answers.specs.declared.end.End.TheVariants.{Closed, Asked, Broken, ReadFault, WriteFault, Memory}
use Rattle.http_api.specs.declared.looking.Heading.{Heading}
use Rattle.answers.specs.Machine.{Step}
use Rattle.http_api.specs.Replies.{memory_text}
use Rattle.http_api.specs.Connection.{Next, stop, go_on, HasRequest, Turn}
use Rattle.http_api.specs.inside.Looking.{IsHeading}

-- the reply was written; it ends the connection where it says so, or the writer failed
abbrev pub IsSent : {W : Type 0} → Bool → List ℕ → TrackedWriting W → TrackedWriting W → Result (Unit {0}) End → Type 0
IsSent closed text old new (Ok done) = (closed ≡ false) × Took old.taken new.taken text
IsSent closed text old new (Err Asked) = (closed ≡ true) × Took old.taken new.taken text
IsSent closed text old new (Err WriteFault) = WroteSome old.taken new.taken text
IsSent closed text old new (Err Closed) = ⊥
IsSent closed text old new (Err Broken) = ⊥
IsSent closed text old new (Err ReadFault) = ⊥
IsSent closed text old new (Err Memory) = ⊥

-- what stands for a reply was written, or the writer failed
abbrev pub IsGivenUp : {W : Type 0} → TrackedWriting W → TrackedWriting W → End → Type 0
IsGivenUp old new Memory = Took old.taken new.taken memory_text
IsGivenUp old new WriteFault = WroteSome old.taken new.taken memory_text
IsGivenUp old new Asked = ⊥
IsGivenUp old new Closed = ⊥
IsGivenUp old new Broken = ⊥
IsGivenUp old new ReadFault = ⊥

-- request `number` of this input was settled, and its text written, or a beginning of it
abbrev pub IsSettled : {S : Type 0} → Step S → S → ℕ → List ℕ → List ℕ → Taken → S → Taken → Result (Unit {0}) End → Type 0
IsSettled step s number input rest had t has (Ok done) = (text : List ℕ) × Turn step s number input text t (go_on rest) × Took had has text
IsSettled step s number input rest had t has (Err Asked) = (text : List ℕ) × Turn step s number input text t (stop Asked) × Took had has text
IsSettled step s number input rest had t has (Err Memory) = (text : List ℕ) × Turn step s number input text t (stop Memory) × Took had has text
IsSettled step s number input rest had t has (Err WriteFault) = (text : List ℕ) × (next : Next) × Turn step s number input text t next × WroteSome had has text
IsSettled step s number input rest had t has (Err Closed) = ⊥
IsSettled step s number input rest had t has (Err Broken) = ⊥
IsSettled step s number input rest had t has (Err ReadFault) = ⊥

-- whatever the input, if this request stands at its front, it is settled so
abbrev pub Settles : {S W : Type 0} → Step S → Heading → List ℕ → ℕ → S × TrackedWriting W → S × TrackedWriting W → Result (Unit {0}) End → Type 0
Settles step heading body number (s, old) (t, new) result = (input rest : List ℕ) (head : RequestHead) → HasRequest input head body rest → IsHeading head heading
    → IsSettled step s number input rest old.taken t new.taken result

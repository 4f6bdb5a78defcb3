-- How a request that has come whole is settled.
use Rattle.std.proofs.Common.{◌≡◌, ℕ, Bool, List, [], sym, subst}
use Rattle.std.specs.Prelude.{Result, Ok, Err}
use Rattle.std.proofs.lemmas.List.{append-nil}
use Rattle.tracked_io.specs.Tracking.{TrackedWriting}
use Rattle.tracked_io.specs.Wrote.{Taken, Took, Wrote}
use Rattle.tracked_io.proofs.Appending.{took_kept}
use Rattle.answers.specs.declared.end.End.{End}
use Rattle.answers.specs.declared.end.End.TheVariants.{Closed, Asked, Broken, ReadFault, WriteFault, Memory}
use Rattle.answers.specs.Machine.{Step}
use Rattle.http_api.specs.Replies.{memory_text}
use Rattle.http_api.specs.Connection.{stop, after, Turn}
use Rattle.http_api.specs.inside.Settling.{IsSent, IsGivenUp, IsSettled}

-- a text was written whole, and then there was a flush
pub wrote_flushed : {T E : Type 0} (r : Result T E) (a b c : Taken) (text : List ℕ) → Took a b text → c ≡ b → Wrote r a c text
wrote_flushed (Ok u) a b c text h k = took_kept a b c text h k
wrote_flushed (Err e) a b c text h k = (text, [], sym (append-nil text), took_kept a b c text h k)

module _ {S W : Type 0} (step : Step S) (s t : S) (number : ℕ) (input rest : List ℕ) (old new : TrackedWriting W) where
  -- a reply was sent
  pub sent_settled : (closed : Bool) (text : List ℕ) (r : Result (Unit {0}) End) → IsSent closed text old new r → Turn step s number input text t (after closed rest)
      → IsSettled step s number input rest old.taken t new.taken r
  sent_settled closed text (Ok u) w turn = (text, subst (λ b. Turn step s number input text t (after b rest)) w.0 turn, w.1)
  sent_settled closed text (Err Asked) w turn = (text, subst (λ b. Turn step s number input text t (after b rest)) w.0 turn, w.1)
  sent_settled closed text (Err WriteFault) w turn = (text, after closed rest, turn, w)
  sent_settled closed text (Err Closed) w turn = absurd w
  sent_settled closed text (Err Broken) w turn = absurd w
  sent_settled closed text (Err ReadFault) w turn = absurd w
  sent_settled closed text (Err Memory) w turn = absurd w

  -- there was no memory for one
  pub given_up_settled : (end : End) → IsGivenUp old new end → Turn step s number input memory_text t (stop Memory)
      → IsSettled step s number input rest old.taken t new.taken (Err end)
  given_up_settled Memory w turn = (memory_text, turn, w)
  given_up_settled WriteFault w turn = (memory_text, stop Memory, turn, w)
  given_up_settled Asked w turn = absurd w
  given_up_settled Closed w turn = absurd w
  given_up_settled Broken w turn = absurd w
  given_up_settled ReadFault w turn = absurd w

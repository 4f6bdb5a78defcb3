-- What standard error is told.
use Rattle.std.proofs.Common.{◌≡◌, List, ℕ, [], true, false, inl, inr, sym, subst, ap, append_assoc, ◌++◌, ◌∙◌}
use Rattle.std.specs.Prelude.{Result, Ok, Err, OnOk}
use Rattle.std.proofs.lemmas.List.{append-nil}
use Rattle.names.specs.Refusals.{number_of, name_of}
use Rattle.names.specs.declared.refusal.Refusal.{Refusal}
use Rattle.tracked_io.specs.Tracking.{FailsWith, TrackedWriting}
use Rattle.tracked_io.specs.Wrote.{Taken, Took, Wrote, WroteSome}
use Rattle.tracked_io.proofs.Appending.{took_both, took_kept, some_after}
use Rattle.command_line.specs.declared.fault.Fault.{Fault}
use Rattle.command_line.specs.declared.fault.Fault.TheVariants.{Refused}
use Rattle.program.specs.Telling.{fault_line, refusal_line, Tells}

pub tells : {E T X : Type 0} (old new : TrackedWriting E) (fault : Fault) (r : Result T X) → Wrote r old.taken new.taken (fault_line fault) → FailsWith r old.failed new.failed → OnOk r (new.flushed ≡ true) → old.failed ≡ false → Tells old new fault
tells old new fault (Ok done) wrote failed flushed unbroken = inl (failed ∙ unbroken, flushed, wrote)
tells old new fault (Err error) wrote failed flushed unbroken = inr (failed, wrote)

-- the line of a fault is this text
pub says : {T X : Type 0} (r : Result T X) (old new : Taken) (text : List ℕ) (fault same : Fault) → fault ≡ same → text ≡ fault_line same → Wrote r old new text → Wrote r old new (fault_line fault)
says r old new text fault same is line wrote = subst (λ (t : List ℕ). Wrote r old new t) (line ∙ ap (λ (f : Fault). fault_line f) (sym is)) wrote

pub refusal_is : (why : Refusal) (number : ℕ) (name : List ℕ) → number ≡ number_of why → name ≡ name_of why → refusal_line number name ≡ fault_line (Refused why)
refusal_is why number name numbered named = ap (λ (n : ℕ). refusal_line n name) numbered ∙ ap (λ (m : List ℕ). refusal_line (number_of why) m) named

-- what was written stays where it is handed on
pub handed_on : {T X : Type 0} (r : Result T X) (a b c : Taken) (xs : List ℕ) → Took a b xs → c ≡ b → Wrote r a c xs
handed_on (Ok done) a b c xs h k = took_kept a b c xs h k
handed_on (Err error) a b c xs h k = (xs, [], sym (append-nil xs), took_kept a b c xs h k)

-- a first part was written, and then the next
pub after : {T X : Type 0} (r : Result T X) (a b c : Taken) (xs ys : List ℕ) → Took a b xs → Wrote r b c ys → Wrote r a c (xs ++ ys)
after (Ok done) a b c xs ys h k = took_both a b c xs ys h k
after (Err error) a b c xs ys h k = some_after a b c xs ys h k

-- some of it was, and nothing of the next
pub some_then : (a b : Taken) (xs ys : List ℕ) → WroteSome a b xs → WroteSome a b (xs ++ ys)
some_then a b xs ys s = (s.0, s.1 ++ ys, ap (λ (z : List ℕ). z ++ ys) s.2 ∙ append_assoc s.0 s.1 ys, s.3)

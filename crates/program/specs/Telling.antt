-- What standard error is told of a fault.
use Rattle.std.specs.Prelude.{ℕ, ◌≡◌, ◌⊎◌, ◌++◌, true, false, List, [], ◌∷◌, codes, decimal}
use Rattle.tracked_io.specs.Tracking.{TrackedWriting}
use Rattle.tracked_io.specs.Wrote.{Took, WroteSome}
use Rattle.command_line.specs.Faults.{fault_text}
use Rattle.command_line.specs.declared.fault.Fault.{Fault}

-- the line of a fault
abbrev pub fault_line : Fault → List ℕ
fault_line fault = fault_text fault ++ 10 ∷ []

-- the end of that of a refusal with this number and name
abbrev pub cause_text : ℕ → List ℕ → List ℕ
cause_text number name = decimal number ++ 32 ∷ name ++ 10 ∷ []

-- all of it
abbrev pub refusal_line : ℕ → List ℕ → List ℕ
refusal_line number name = codes "zanz: refused " ++ cause_text number name

-- The line was written and handed on; or a beginning of it was written, where that failed.
abbrev pub Tells : {E : Type 0} → TrackedWriting E → TrackedWriting E → Fault → Type 0
Tells old new fault = ((new.failed ≡ false) × (new.flushed ≡ true) × Took old.taken new.taken (fault_line fault))
    ⊎ ((new.failed ≡ true) × WroteSome old.taken new.taken (fault_line fault))

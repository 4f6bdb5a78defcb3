-- What a machine that answers calls may do.
use Rattle.std.specs.Prelude.{ℕ, List, Option}
use Rattle.names.specs.declared.call.Call.{Call}

-- from the first state, the machine may give this reply to the call with this body, and go on to the second
abbrev pub Step : Type 0 → Type 1
Step S = S → Call → List ℕ → Option (ℕ × List ℕ) → S → Type 0

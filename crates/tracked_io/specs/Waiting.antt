-- The reads of a reader, each with what had been handed on when it began to wait.
use Rattle.std.specs.Prelude.{ℕ, ◌≡◌, ◌++◌, List, [], ◌∷◌, take, Result, Ok, Err}
use Rattle.std.specs.List.{flat_map}
use Rattle.tracked_io.specs.Wrote.{Taken}

-- one read: what the writer that it was lent had taken, all of it handed on, and the bytes that it gave, none where it failed
pub record OneRead : Type 0 where
  pub held : Taken
  pub gave : List ℕ

abbrev pub with_read : List OneRead → Taken → List ℕ → List OneRead
with_read reads held gave = reads ++ (record { held = held; gave = gave }) ∷ []

-- the bytes that a read of this result left in the buffer
abbrev pub given_by : {E : Type 0} → Result ℕ E → List ℕ → List ℕ
given_by (Ok n) buf = take n buf
given_by (Err e) buf = []

-- all that these reads gave
abbrev pub given : List OneRead → List ℕ
given reads = flat_map (λ read. read.gave) reads

-- the reads that came after the first ones gave these bytes
abbrev pub Gave : List OneRead → List OneRead → List ℕ → Type 0
Gave old new input = (more : List OneRead) × (new ≡ old ++ more) × (given more ≡ input)

-- at each of these reads, which follow this input, this held of the bytes before it, and of what the writer had taken
abbrev pub HoldsAtEach : (List ℕ → Taken → Type 0) → List ℕ → List OneRead → Type 0
HoldsAtEach P input [] = Unit {0}
HoldsAtEach P input (read ∷ reads) = P input read.held × HoldsAtEach P (input ++ read.gave) reads

-- the reads that came after the first ones gave these bytes, and at each this held
pub record Waited (P : List ℕ → Taken → Type 0) (old new : List OneRead) (input : List ℕ) : Type 0 where
  pub more : List OneRead
  pub grown : new ≡ old ++ more
  pub gives : given more ≡ input
  pub held : HoldsAtEach P [] more

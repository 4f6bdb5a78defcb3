-- Where an id stands among ids in order. No promise rests on it.
use Rattle.std.specs.Prelude.{ℕ, ◌<◌, ◌≤◌, List, length, slice_index}

-- the ids before a place are below the id
abbrev pub AreBelow : List ℕ → ℕ → ℕ → Type 0
AreBelow ids id at = (k : ℕ) → k < at → slice_index ids k < id

-- the ids from a place on are not
abbrev pub AreFrom : List ℕ → ℕ → ℕ → Type 0
AreFrom ids id at = (k : ℕ) → at ≤ k → k < length ids → id ≤ slice_index ids k

-- so many ids are below the id
pub record IsPlace (ids : List ℕ) (id at : ℕ) : Type 0 where
  pub within : at ≤ length ids
  pub below : AreBelow ids id at
  pub from : AreFrom ids id at

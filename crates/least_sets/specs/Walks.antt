-- Walks along arcs.
use Rattle.std.specs.Prelude.{ℕ, ◌≡◌, ◌≤◌, Bool, true, ◌||◌, List, nat_eq, take, length}
use Rattle.std.specs.List.{IsDistinct}
use Rattle.least_sets.specs.World.{Fact, has, arcs_of}

-- a walk of any length
pub data Walk (arc : ℕ → ℕ → Bool) (from : ℕ) : ℕ → Type 0 where
  here : Walk arc from from
  on : {b c : ℕ} → Walk arc from b → arc b c ≡ true → Walk arc from c

-- the arcs of a world
abbrev pub arc_of : (ℕ → Fact) → ℕ → ℕ → Bool
arc_of world a b = has (arcs_of (world a).shape) b

-- a walk from one of some nodes
pub record IsReached (arc : ℕ → ℕ → Bool) (starts : List ℕ) (n : ℕ) : Type 0 where
  pub start : ℕ
  pub among : has starts start ≡ true
  pub walk : Walk arc start n

-- a walk to one of some nodes
pub record IsTouched (arc : ℕ → ℕ → Bool) (changed : List ℕ) (n : ℕ) : Type 0 where
  pub end : ℕ
  pub among : has changed end ≡ true
  pub walk : Walk arc n end

-- what is new is added at the end, once
pub record Adds (old new : List ℕ) (more : ℕ → Bool) : Type 0 where
  pub members : (u : ℕ) → has new u ≡ (has old u || more u)
  pub distinct : IsDistinct nat_eq new
  pub front : (i : ℕ) → i ≤ length old → take i new ≡ take i old
  pub longer : length old ≤ length new

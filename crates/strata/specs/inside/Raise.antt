-- Levels that are raised in passes over the steps.
use Rattle.std.specs.Prelude.{◌≡◌, ℕ, ◌<◌, ◌≤◌, ◌+◌, ◌-◌, List, Bool, true, false, length, slice_index, slice_index_or, sum_by}
use Rattle.strata.specs.declared.graph.Step.{Step}
use Rattle.strata.specs.Graph.{HasStep, sign_cost}
use Rattle.meaning.specs.Levels.{Path}

-- each level has a path
pub record IsRaising (steps : List Step) (count : ℕ) (levels : List ℕ) : Type 0 where
  pub long : length levels ≡ count
  pub paths : (r : ℕ) → Path (HasStep steps) r (slice_index levels r)

-- the level of its start is what the step asks for
abbrev pub IsMet : List ℕ → Step → Type 0
IsMet levels s = slice_index levels s.to + sign_cost s.subtracted ≤ slice_index levels s.from

-- how far the levels are from as many as there are steps
abbrev pub room : List Step → List ℕ → ℕ
room steps levels = sum_by (λ level. length steps - level) levels

-- the first n steps have raised levels, or asked for no more than they were
pub record IsPass (steps : List Step) (old new : List ℕ) (n : ℕ) (rose : Bool) : Type 0 where
  pub raising : IsRaising steps (length old) new
  pub falls : rose ≡ true → room steps new < room steps old
  pub same : rose ≡ false → new ≡ old
  pub met : rose ≡ false → (k : ℕ) (s : Step) → k < n → slice_index_or steps k s ≡ s → IsMet new s

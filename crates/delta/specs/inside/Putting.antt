-- Sets from which some ids were taken.
use Rattle.std.specs.Prelude.{ℕ, ◌≡◌, ◌&&◌, not, List}
use Rattle.least_sets.specs.World.{has}

-- the first has the ids of the second without the less
abbrev pub IsWithout : List ℕ → List ℕ → List ℕ → Type 0
IsWithout first second less = (i : ℕ) → has first i ≡ (has second i && not (has less i))

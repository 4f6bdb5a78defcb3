-- Walks over ids. No promise rests on it.
use Rattle.std.specs.Prelude.{◌≡◌, ℕ, ◌<◌, ◌↔◌, true, List, [], length, slice_index_or}
use Rattle.std.specs.List.Sorted.{IsStrictlyIncreasing}
use Rattle.idsets.specs.Sets.{has}

-- the set at the first has the second
abbrev pub IsIdArc : List (List ℕ) → ℕ → ℕ → Type 0
IsIdArc arcs i j = has (slice_index_or arcs i []) j ≡ true

-- a walk of such arcs, of any length
pub data IdWalk (arcs : List (List ℕ)) (from : ℕ) : ℕ → Type 0 where
  stay : IdWalk arcs from from
  go : {i j : ℕ} → IdWalk arcs from i → IsIdArc arcs i j → IdWalk arcs from j

-- in ascending order, the ends of walks from it
pub record IsWalkSet (arcs : List (List ℕ)) (from : ℕ) (set : List ℕ) : Type 0 where
  pub ascending : IsStrictlyIncreasing set
  pub ids : (id : ℕ) → (has set id ≡ true) ↔ IdWalk arcs from id

-- so it is of the places below one
pub record AreWalkSetsTo (arcs : List (List ℕ)) (end : ℕ) (sets : List (List ℕ)) : Type 0 where
  pub count : length sets ≡ end
  pub each : (at : ℕ) → at < end → IsWalkSet arcs at (slice_index_or sets at [])

-- so it is of each place
abbrev pub AreWalkSets : List (List ℕ) → List (List ℕ) → Type 0
AreWalkSets arcs sets = AreWalkSetsTo arcs (length arcs) sets

-- What holds of a lookup at each time.
use Rattle.std.specs.Prelude.{◌≡◌, ℕ, ◌≤◌, ◌⊎◌, List, [], ◌∷◌, true, false, length, Contains}
use Rattle.std.specs.List.Sorted.{IsStrictlySortedBy}
use Rattle.std.specs.Cmp.Lexicographic.{slice_cmp}
use Rattle.std.specs.Ordering.{nat_cmp}
use Rattle.std.specs.declared.cmp.Ordering.TheVariants.{Less}
use Rattle.meaning.specs.Snap.{Snap}
use Rattle.lookup.specs.declared.asked.Lookup.{Lookup}
use Rattle.lookup.specs.declared.looking.Found.{Found}
use Rattle.lookup.specs.Found.{is_later, IsFound}

-- no id comes before one that stands before it
abbrev pub IsRising : List (List ℕ) → Type 0
IsRising [] = Unit {0}
IsRising (i ∷ is) = ((j : List ℕ) → Contains is j → slice_cmp nat_cmp j i ≡ Less → ⊥) × IsRising is

-- The ids are those that are found up to the last that was asked for. One that is found and comes later is among those that are left, unless the ids are as many as are asked for.
pub record IsUnderway (S : Snap) (asked : Lookup) (found : Found) (left : List (List ℕ)) : Type 0 where
  pub rising : IsRising left
  pub behind : (id : List ℕ) → is_later found.last id ≡ true → is_later asked.after id ≡ true
  pub sorted : IsStrictlySortedBy (slice_cmp nat_cmp) found.ids.items
  pub few : length found.ids.items ≤ asked.limit
  pub only : (id : List ℕ) → Contains found.ids.items id → IsFound S asked id × (is_later found.last id ≡ false)
  pub others : (id : List ℕ) → IsFound S asked id
      → Contains found.ids.items id ⊎ ((is_later found.last id ≡ true) × (Contains left id ⊎ (length found.ids.items ≡ asked.limit)))

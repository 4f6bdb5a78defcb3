-- What is to be kept of the nodes told of. No promise rests on it.
use Rattle.std.specs.Prelude.{ℕ, ◌≡◌, Bool, Option, Some, None}
use Rattle.std.specs.Ordering.{nat_cmp}
use Rattle.std.specs.BTreeMap.{BTreeMap, get}
use Rattle.least_sets.specs.World.{Fact, has}
use Rattle.least_sets.specs.Walks.{arc_of}
use Rattle.region.specs.declared.sets.Row.{Row}
use Rattle.region.specs.Tables.{arcs_or_none}

-- the nodes that a node names, of which a row is ready
abbrev pub names_in : BTreeMap ℕ Row → ℕ → ℕ → Bool
names_in ready n m = has (arcs_or_none (get nat_cmp ready n)) m

-- each row has the arcs of the world, and the members of the sets
abbrev pub AreReady : (ℕ → Fact) → (ℕ → ℕ → Bool) → BTreeMap ℕ Row → Type 0
AreReady world sets ready = (n : ℕ) (row : Row) → get nat_cmp ready n ≡ Some row
    → ((m : ℕ) → has row.arcs m ≡ arc_of world n m) × ((user : ℕ) → has row.members user ≡ sets user n)

abbrev pub row_or : Option Row → Option Row → Option Row
row_or None other = other
row_or (Some row) other = Some row

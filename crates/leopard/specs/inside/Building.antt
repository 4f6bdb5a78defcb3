-- What the index is made of, on the way to it. No promise rests on it.
use Rattle.std.specs.Prelude.{◌≡◌, ℕ, ◌||◌, true, List, [], Some, nat_eq, slice_index_or, slice_set}
use Rattle.std.specs.List.{slice_get}
use Rattle.std.specs.List.Sorted.{IsStrictlyIncreasing}
use Rattle.names.specs.declared.object.Object.{Object}
use Rattle.names.specs.declared.node.Node.{Node}
use Rattle.names.specs.declared.tuple.Tuple.{Tuple}
use Rattle.meaning.specs.Config.{Configured}
use Rattle.meaning.specs.Snap.{one}
use Rattle.idsets.specs.Sets.{has}
use Rattle.leopard.specs.Groups.{IsGroup}

-- the tuple is the group's
abbrev pub Owns : Configured → Node → Tuple → Type 0
Owns config n t = IsGroup config t.node × (n ≡ t.node)

-- each set is in ascending order
abbrev pub AreAscending : List (List ℕ) → Type 0
AreAscending sets = (at : ℕ) → IsStrictlyIncreasing (slice_index_or sets at [])

-- the set at the place has gained the id
abbrev pub PutsId : ℕ → ℕ → List (List ℕ) → List (List ℕ) → Type 0
PutsId at id old new = (set : List ℕ) × (new ≡ slice_set old at set) × ((other : ℕ) → has set other ≡ (nat_eq other id || has (slice_index_or old at []) other))

-- the user's set has the id
abbrev pub HasId : List Object → List (List ℕ) → Object → ℕ → Type 0
HasId users sets u id = (at : ℕ) × (slice_get users at ≡ Some u) × (has (slice_index_or sets at []) id ≡ true)

-- the tuple is of a group and names the user
abbrev pub NamesOne : Configured → Object → Tuple → Type 0
NamesOne config u t = IsGroup config t.node × (t.subject ≡ one u)

-- the tuple is of the group that has the id, and names the user
abbrev pub Tells : Configured → List Node → Object → ℕ → Tuple → Type 0
Tells config names u id t = IsGroup config t.node × (t.subject ≡ one u) × (slice_get names id ≡ Some t.node)

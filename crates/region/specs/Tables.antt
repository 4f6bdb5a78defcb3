-- What is kept of nodes, and ids that are kept by a number.
use Rattle.std.specs.Prelude.{ℕ, ◌≡◌, Bool, true, List, [], Option, Some, None, is_some}
use Rattle.std.specs.Ordering.{nat_cmp}
use Rattle.std.specs.BTreeMap.{BTreeMap, get}
use Rattle.least_sets.specs.World.{has}
use Rattle.region.specs.declared.sets.Row.{Row}

-- what is kept of each node; a place without a row is as none
abbrev pub Rows : Type 0
Rows = BTreeMap ℕ (Option Row)

abbrev pub row_or_none : Option (Option Row) → Option Row
row_or_none None = None
row_or_none (Some row) = row

abbrev pub row_of : Rows → ℕ → Option Row
row_of rows node = row_or_none (get nat_cmp rows node)

abbrev pub arcs_or_none : Option Row → List ℕ
arcs_or_none None = []
arcs_or_none (Some row) = row.arcs

abbrev pub members_or_none : Option Row → List ℕ
members_or_none None = []
members_or_none (Some row) = row.members

abbrev pub kept : Rows → ℕ → Bool
kept rows node = is_some (row_of rows node)

-- the nodes that a kept node names
abbrev pub arc_in : Rows → ℕ → ℕ → Bool
arc_in rows a b = has (arcs_or_none (row_of rows a)) b

-- whether a kept node holds a user
abbrev pub holds : Rows → ℕ → ℕ → Bool
holds rows user node = has (members_or_none (row_of rows node)) user

abbrev pub Lists : Type 0
Lists = BTreeMap ℕ (List ℕ)

abbrev pub ids_or_none : Option (List ℕ) → List ℕ
ids_or_none None = []
ids_or_none (Some ids) = ids

-- the ids at a number, or none
abbrev pub list_at : Lists → ℕ → List ℕ
list_at table at = ids_or_none (get nat_cmp table at)

abbrev pub listed : Lists → ℕ → ℕ → Bool
listed table at id = has (list_at table at) id

abbrev pub ids_or : Option (List ℕ) → List ℕ → List ℕ
ids_or None others = others
ids_or (Some ids) others = ids

-- whether a node holds a user, where some nodes have new members
abbrev pub over : Lists → Rows → ℕ → ℕ → Bool
over fresh rows user node = has (ids_or (get nat_cmp fresh node) (members_or_none (row_of rows node))) user

-- no arc leads out of what is kept
abbrev pub IsClosed : Rows → Type 0
IsClosed rows = (n m : ℕ) → kept rows n ≡ true → arc_in rows n m ≡ true → kept rows m ≡ true

-- the table leads from each node to those that name it, and may lead to others
abbrev pub IsBacked : Rows → Lists → Type 0
IsBacked rows back = (n m : ℕ) → arc_in rows n m ≡ true → listed back m n ≡ true

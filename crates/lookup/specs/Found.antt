-- The objects of a namespace to which a user has a relation: ListObjects of OpenFGA, LookupResources of SpiceDB.
use Rattle.std.specs.Prelude.{◌≡◌, ℕ, ◌≤◌, ◌⊎◌, List, Bool, true, length, Contains, All, Option, Some, None}
use Rattle.std.specs.List.Sorted.{IsStrictlySortedBy}
use Rattle.std.specs.Cmp.Lexicographic.{slice_cmp}
use Rattle.std.specs.Ordering.{nat_cmp, is_lt}
use Rattle.std.specs.declared.cmp.Ordering.TheVariants.{Less}
use Rattle.names.specs.declared.node.Node.{Node}
use Rattle.names.specs.declared.relation.RelationName.{RelationName}
use Rattle.meaning.specs.Snap.{Snap}
use Rattle.meaning.specs.Membership.{IsMember}
use Rattle.lookup.specs.declared.asked.Lookup.{Lookup}

-- the relation of the namespace's object with the id
abbrev pub node_of : RelationName → List ℕ → Node
node_of r id = record { object = record { namespace = r.namespace; id = id }; relation = r.relation }

-- the id comes later than this by its bytes, if one is given
abbrev pub is_later : Option (List ℕ) → List ℕ → Bool
is_later None id = true
is_later (Some after) id = is_lt (slice_cmp nat_cmp after id)

-- the user has the relation to the object with the id, which comes later than the one that is given
abbrev pub IsFound : Snap → Lookup → List ℕ → Type 0
IsFound S asked id = IsMember S asked.user (node_of asked.relation id) × (is_later asked.after id ≡ true)

-- The ids are found and in order, at most as many as are asked for. One that is found and is not among them comes after them all, and then they are as many as that.
pub record IsLookup (S : Snap) (asked : Lookup) (ids : List (List ℕ)) : Type 0 where
  pub sorted : IsStrictlySortedBy (slice_cmp nat_cmp) ids
  pub few : length ids ≤ asked.limit
  pub only : (id : List ℕ) → Contains ids id → IsFound S asked id
  pub others : (id : List ℕ) → IsFound S asked id → Contains ids id ⊎ ((length ids ≡ asked.limit) × All (λ i. slice_cmp nat_cmp i id ≡ Less) ids)

-- The namespaces of whose nodes a relation declares types.
use Rattle.std.specs.Prelude.{◌≡◌, ℕ, List, Some, Contains, take, slice_index_or}
use Rattle.names.specs.declared.relation.SubjectType.{SubjectType}

-- the type is of nodes of the namespace
abbrev pub IsOfNodes : List ℕ → SubjectType → Type 0
IsOfNodes namespace type = (type.namespace ≡ namespace) × ((relation : List ℕ) × (type.relation ≡ Some relation))

-- one of the types is
abbrev pub DeclaresNodes : List SubjectType → List ℕ → Type 0
DeclaresNodes types namespace = (type : SubjectType) × Contains types type × IsOfNodes namespace type

-- where the type at this place is, one before it is too
abbrev pub IsRepeated : List SubjectType → ℕ → Type 0
IsRepeated types i = (d : SubjectType) (namespace : List ℕ) → IsOfNodes namespace (slice_index_or types i d) → DeclaresNodes (take i types) namespace

-- Members in the order of their keys, and the order of what is read of them.
use Rattle.std.specs.Prelude.{ℕ, List, [], ◌∷◌, ⊤, map, All, Contains}
use Rattle.std.specs.List.Sorted.{IsStrictlySortedBy}
use Rattle.serde_json.specs.Data.{Data, null, boolean, number, string, array, object, Members, no_members, member}
use Rattle.names.specs.declared.relation.RelationName.{RelationName}
use Rattle.config_text.specs.Order.{name_cmp, relation_cmp}
use Rattle.config_text.specs.Texts.{RelationTexts, ConfigTexts}

abbrev pub keys_in : Members → List (List ℕ)
keys_in no_members = []
keys_in (member k d ms) = k ∷ keys_in ms

-- each key once, and in order
abbrev pub AreInOrder : Members → Type 0
AreInOrder ms = IsStrictlySortedBy name_cmp (keys_in ms)

-- where it is an object, its members are in order
abbrev pub IsInOrder : Data → Type 0
IsInOrder null = ⊤
IsInOrder (boolean b) = ⊤
IsInOrder (number n) = ⊤
IsInOrder (string s) = ⊤
IsInOrder (array ds) = ⊤
IsInOrder (object ms) = AreInOrder ms

-- the same of each member's value
abbrev pub HaveOrder : Members → Type 0
HaveOrder no_members = ⊤
HaveOrder (member k d ms) = IsInOrder d × HaveOrder ms

-- the name of a relation, by its texts
abbrev pub name_of : RelationTexts → RelationName
name_of t = record { namespace = t.namespace; relation = t.relation }

-- the texts are those of a configuration in order
pub record AreOrdered (t : ConfigTexts) : Type 0 where
  pub namespaces : IsStrictlySortedBy name_cmp t.namespaces
  pub relations : IsStrictlySortedBy relation_cmp (map name_of t.relations)
  pub homes : All (λ r. Contains t.namespaces r.namespace) (map name_of t.relations)

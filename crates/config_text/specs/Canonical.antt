-- The canonical JSON of a configuration.
use Rattle.std.specs.Prelude.{ℕ, Bool, true, false, cond, List, [], ◌∷◌, codes, nat_eq}
use Rattle.std.specs.Cmp.Lexicographic.{pointwise}
use Rattle.serde_json.specs.Data.{Data, boolean, string, array, object, Items, no_items, item, Members, no_members, member, put}
use Rattle.serde_json.specs.Written.{compact_text}
use Rattle.names.specs.Spelling.{type_text}
use Rattle.names.specs.declared.relation.SubjectType.{SubjectType}
use Rattle.meaning.specs.Form.{Form, Forms, This, Computed, TupleTo, Union, Intersection, Exclusion, none, more}
use Rattle.meaning.specs.Config.{Configured, Defined}

-- an object of one member
abbrev pub only : List ℕ → Data → Data
only k d = object (member k d no_members)

abbrev mutual
  pub form_data : Form → Data
  form_data This = string (codes "this")
  form_data (Computed r) = only (codes "computed") (string r)
  form_data (TupleTo t r) = only (codes "tuple_to") (object (put (codes "tupleset") (string t) (put (codes "relation") (string r) no_members)))
  form_data (Union ws) = only (codes "union") (array (forms_data ws))
  form_data (Intersection ws) = only (codes "intersection") (array (forms_data ws))
  form_data (Exclusion a b) = only (codes "exclusion") (array (item (form_data a) (item (form_data b) no_items)))

  pub forms_data : Forms → Items
  forms_data none = no_items
  forms_data (more w ws) = item (form_data w) (forms_data ws)

abbrev pub types_data : List SubjectType → Items
types_data [] = no_items
types_data (t ∷ ts) = item (string (type_text t)) (types_data ts)

-- `types` only where there are some
abbrev pub with_types : List SubjectType → Members → Members
with_types [] ms = ms
with_types (t ∷ ts) ms = put (codes "types") (array (types_data (t ∷ ts))) ms

abbrev pub is_this : Form → Bool
is_this This = true
is_this (Computed r) = false
is_this (TupleTo t r) = false
is_this (Union ws) = false
is_this (Intersection ws) = false
is_this (Exclusion a b) = false

-- `rewrite` only where it is not `"this"`
abbrev pub with_rewrite : Form → Members → Members
with_rewrite f ms = cond (is_this f) ms (put (codes "rewrite") (form_data f) ms)

-- `indexed` only where it is true
abbrev pub with_indexed : Bool → Members → Members
with_indexed false ms = ms
with_indexed true ms = put (codes "indexed") (boolean true) ms

abbrev pub relation_data : Defined → Data
relation_data d = object (with_indexed d.indexed (with_rewrite d.form (with_types d.types no_members)))

-- the members, with the relation put where it is one of the namespace
abbrev pub relation_into : List ℕ → Members → Defined → Members
relation_into n ms d = cond (pointwise nat_eq d.rel.namespace n) (put d.rel.relation (relation_data d) ms) ms

abbrev pub relations_into : List ℕ → Members → List Defined → Members
relations_into n ms [] = ms
relations_into n ms (d ∷ ds) = relations_into n (relation_into n ms d) ds

-- the members, with each namespace put
abbrev pub namespaces_into : List Defined → Members → List (List ℕ) → Members
namespaces_into ds ms [] = ms
namespaces_into ds ms (n ∷ ns) = namespaces_into ds (put n (object (relations_into n no_members ds)) ms) ns

-- The JSON of a configuration; `put` keeps members in byte order.
abbrev pub config_data : Configured → Data
config_data c = only (codes "namespaces") (object (namespaces_into c.relations no_members c.namespaces))

abbrev pub config_text : Configured → List ℕ
config_text c = compact_text (config_data c)

-- Which tuples a configuration admits, after OpenFGA's type restrictions.
use Rattle.std.specs.Prelude.{◌&&◌, Bool, Contains, nat_eq}
use Rattle.std.specs.List.{list_any}
use Rattle.std.specs.Cmp.Lexicographic.{pointwise}
use Rattle.std.specs.Option.{option_eq}
use Rattle.names.specs.declared.tuple.Tuple.{Tuple}
use Rattle.names.specs.declared.subject.Subject.{Subject}
use Rattle.names.specs.declared.relation.RelationName.{RelationName}
use Rattle.names.specs.declared.relation.SubjectType.{SubjectType}
use Rattle.meaning.specs.Config.{Configured, Defined, Defines, rel_of}

-- the type of a subject: the objects of its namespace, or the nodes of its relation
abbrev pub type_of : Subject → SubjectType
type_of s = record { namespace = s.object.namespace; relation = s.relation }

-- the tuple's relation is there, and declares the type of its subject
abbrev pub Admits : Configured → Tuple → Type 0
Admits config t = (d : Defined) × Defines config (rel_of t.node) d × Contains d.types (type_of t.subject)

-- The same two, as tests.
abbrev pub is_relation : RelationName → Defined → Bool
is_relation r d = pointwise nat_eq d.rel.namespace r.namespace && pointwise nat_eq d.rel.relation r.relation

abbrev pub is_type : SubjectType → SubjectType → Bool
is_type a b = pointwise nat_eq a.namespace b.namespace && option_eq (pointwise nat_eq) a.relation b.relation

abbrev pub has_relation : Configured → RelationName → Bool
has_relation config r = list_any (is_relation r) config.relations

abbrev pub declares : Subject → Defined → Bool
declares s d = list_any (is_type (type_of s)) d.types

abbrev pub admits : Configured → Tuple → Bool
admits config t = list_any (λ d. is_relation (rel_of t.node) d && declares t.subject d) config.relations

-- The orders of objects, nodes, subjects and tuples, each by the bytes of its parts in turn.
use Rattle.std.specs.Prelude.{Bool}
use Rattle.std.specs.Option.{option_cmp}
use Rattle.std.specs.Ordering.{nat_cmp, ordering_then, eq_by_cmp}
use Rattle.std.specs.Cmp.Lexicographic.{slice_cmp}
use Rattle.std.specs.declared.cmp.Ordering.{Ordering}
use Rattle.names.specs.declared.object.Object.{Object}
use Rattle.names.specs.declared.node.Node.{Node}
use Rattle.names.specs.declared.subject.Subject.{Subject}
use Rattle.names.specs.declared.tuple.Tuple.{Tuple}

-- by namespace, then by id
abbrev pub object_cmp : Object → Object → Ordering
object_cmp a b = ordering_then (slice_cmp nat_cmp a.namespace b.namespace) (slice_cmp nat_cmp a.id b.id)

-- by object, then by relation
abbrev pub node_cmp : Node → Node → Ordering
node_cmp a b = ordering_then (object_cmp a.object b.object) (slice_cmp nat_cmp a.relation b.relation)

-- by namespace and id, an object before its nodes, these by relation
abbrev pub subject_cmp : Subject → Subject → Ordering
subject_cmp a b = ordering_then (object_cmp a.object b.object) (option_cmp (slice_cmp nat_cmp) a.relation b.relation)

-- by node, then by subject
abbrev pub tuple_cmp : Tuple → Tuple → Ordering
tuple_cmp a b = ordering_then (node_cmp a.node b.node) (subject_cmp a.subject b.subject)

-- the two are one node
abbrev pub is_same_node : Node → Node → Bool
is_same_node a b = eq_by_cmp node_cmp a b

-- the two are one tuple
abbrev pub is_same_tuple : Tuple → Tuple → Bool
is_same_tuple a b = eq_by_cmp tuple_cmp a b

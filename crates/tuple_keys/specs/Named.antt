-- What tuples are of, and what they name.
use Rattle.std.specs.Prelude.{ℕ, ◌&&◌, List, Bool, Option, Some, None, nat_eq}
use Rattle.std.specs.Option.{option_map}
use Rattle.std.specs.Ordering.{eq_by_cmp, nat_cmp}
use Rattle.std.specs.Cmp.Lexicographic.{pointwise, slice_cmp}
use Rattle.names.specs.Order.{object_cmp, node_cmp}
use Rattle.names.specs.declared.object.Object.{Object}
use Rattle.names.specs.declared.node.Node.{Node}
use Rattle.names.specs.declared.subject.Subject.{Subject}
use Rattle.names.specs.declared.tuple.Tuple.{Tuple}
use Rattle.meaning.specs.Snap.{one}

-- the tuple that names an object
abbrev pub user_tuple : Node → Object → Tuple
user_tuple n u = record { node = n; subject = one u }

-- the tuple's object is of the namespace
abbrev pub is_in : List ℕ → Tuple → Bool
is_in namespace t = eq_by_cmp (slice_cmp nat_cmp) t.node.object.namespace namespace

-- the tuple is of a node of the object
abbrev pub is_at : Object → Tuple → Bool
is_at object t = eq_by_cmp object_cmp t.node.object object

-- the tuple is of the node
abbrev pub is_of : Node → Tuple → Bool
is_of node t = eq_by_cmp node_cmp t.node node

-- the tuple is of the node, and its subject of the namespace
abbrev pub is_within : Node → List ℕ → Tuple → Bool
is_within node namespace t = is_of node t && pointwise nat_eq t.subject.object.namespace namespace

-- the object, where there is no relation
abbrev pub without : Object → Option (List ℕ) → Option Object
without o None = Some o
without o (Some relation) = None

-- the object that the subject is, unless it is a node's members
abbrev pub object_in : Subject → Option Object
object_in s = without s.object s.relation

-- the node whose members the subject is, unless it is an object
abbrev pub node_in : Subject → Option Node
node_in s = option_map (λ relation. record { object = s.object; relation = relation }) s.relation

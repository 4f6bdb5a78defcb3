-- Objects and nodes as parts of a question.
use Rattle.std.specs.Prelude.{ℕ, ◌++◌, ◌&&◌, Bool, List, nat_eq}
use Rattle.std.specs.Hash as fed
use Rattle.std.specs.Cmp.Lexicographic.{pointwise}
use Rattle.names.specs.declared.object.Object.{Object}
use Rattle.names.specs.declared.node.Node.{Node}

-- the two are one object
abbrev pub is_same_object : Object → Object → Bool
is_same_object a b = pointwise nat_eq a.namespace b.namespace && pointwise nat_eq a.id b.id

-- the two are one node
abbrev pub is_same_node : Node → Node → Bool
is_same_node a b = is_same_object a.object b.object && pointwise nat_eq a.relation b.relation

-- what an object is hashed by
abbrev pub object_bytes : Object → List (List ℕ)
object_bytes o = fed.str o.namespace ++ fed.str o.id

-- What some tuples name.
use Rattle.std.specs.Prelude.{List}
use Rattle.std.specs.List.{filter_map}
use Rattle.names.specs.declared.object.Object.{Object}
use Rattle.names.specs.declared.node.Node.{Node}
use Rattle.names.specs.declared.tuple.Tuple.{Tuple}
use Rattle.tuple_keys.specs.Named.{object_in, node_in}

-- the objects that some tuples name
abbrev pub objects_in : List Tuple → List Object
objects_in ts = filter_map (λ t. object_in t.subject) ts

-- the nodes whose members some tuples name
abbrev pub nodes_in : List Tuple → List Node
nodes_in ts = filter_map (λ t. node_in t.subject) ts

-- The tuples as they stand in memory, and the nodes that they are of.
use Rattle.std.specs.Prelude.{ℕ, List, [], ◌∷◌, Option}
use Rattle.std.specs.Option.{option_map}
use Rattle.names.specs.declared.node.Node.{Node}
use Rattle.names.specs.declared.tuple.Tuple.{Tuple}
use Rattle.meaning.specs.TupleSet as set
use Rattle.meaning.specs.TupleSet.{Tuples}
use Rattle.tuple_keys.specs.Named.{object_in, node_in}
use Rattle.tuple_keys.specs.Spelled.{tuple_of, IsSpelling}

-- texts, with nothing at each
abbrev pub Texts : Type 0
Texts = List (List ℕ × Unit {0})

-- the tuples that the texts spell
abbrev pub tuples_of : Texts → List Tuple
tuples_of [] = []
tuples_of (e ∷ es) = tuple_of e.0 ∷ tuples_of es

-- the set of them
abbrev pub found_in : Texts → Tuples
found_in es = set.from_list (tuples_of es)

-- each text spells a tuple
abbrev pub AreSpelled : Texts → Type 0
AreSpelled [] = Unit {0}
AreSpelled (e ∷ es) = IsSpelling e.0 × AreSpelled es

-- the node of the tuple that was turned round to this, where that names an object
abbrev pub namer_in : Tuple → Option Node
namer_in t = option_map (λ o. record { object = o; relation = t.node.relation }) (object_in t.subject)

-- the same where it names a node's members
abbrev pub set_namer_in : Tuple → Option Node
set_namer_in t = node_in t.subject

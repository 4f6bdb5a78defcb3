-- A tuple turned round: of whom it names. Turned twice, it is what it was.
use Rattle.std.specs.Prelude.{ℕ, List, Option, Some, None}
use Rattle.names.specs.declared.object.Object.{Object}
use Rattle.names.specs.declared.node.Node.{Node}
use Rattle.names.specs.declared.tuple.Tuple.{Tuple}
use Rattle.meaning.specs.Snap.{one, set_of}

-- Of an object that is named: it has the node's relation, and names the node's object. Of a node whose members are named: it
-- names those of the tuple's node.
abbrev pub turned_by : Node → Object → Option (List ℕ) → Tuple
turned_by n o None = record { node = record { object = o; relation = n.relation }; subject = one n.object }
turned_by n o (Some relation) = record { node = record { object = o; relation = relation }; subject = set_of n }

abbrev pub turned : Tuple → Tuple
turned t = turned_by t.node t.subject.object t.subject.relation

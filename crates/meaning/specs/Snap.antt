-- A configuration and the tuples of one revision.
use Rattle.std.specs.Prelude.{Some, None}
use Rattle.meaning.specs.TupleSet as set
pub use Rattle.meaning.specs.TupleSet.{Tuples}
use Rattle.names.specs.declared.object.Object.{Object}
use Rattle.names.specs.declared.node.Node.{Node}
use Rattle.names.specs.declared.subject.Subject.{Subject}
use Rattle.meaning.specs.Config.{Configured, empty_config}

pub record Snap : Type 0 where
  pub config : Configured
  pub tuples : Tuples

-- what revision 0 holds
abbrev pub empty_snap : Snap
empty_snap = record { config = empty_config; tuples = set.empty }

-- the object, as a subject
abbrev pub one : Object → Subject
one o = record { object = o; relation = None }

-- the members of the node, as a subject
abbrev pub set_of : Node → Subject
set_of n = record { object = n.object; relation = Some n.relation }

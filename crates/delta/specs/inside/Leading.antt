-- Groups that lead to a node by computed usersets alone.
use Rattle.std.specs.Prelude.{◌≡◌, true}
use Rattle.names.specs.declared.node.Node.{Node}
use Rattle.meaning.specs.Config.{Configured, Defined, rel_of}
use Rattle.graphs.specs.Groups.{GroupWalk}
use Rattle.leopard.specs.Groups.{IsGroup}
use Rattle.leopard.specs.Index.{bare}

abbrev pub LeadsTo : Configured → Node → Node → Type 0
LeadsTo config to g = IsGroup config g × GroupWalk (bare config) g to

-- the group of the node's object with this relation, where it is indexed, leads to the node
abbrev pub IsOneOf : Configured → Defined → Node → Node → Type 0
IsOneOf config d to g = (d.indexed ≡ true) × (d.rel ≡ rel_of g) × (g.object ≡ to.object) × GroupWalk (bare config) g to

use Rattle.std.proofs.Common.{take}
use Rattle.graphs.specs.Groups.{IsGroupArc}
use Rattle.leopard.specs.Build.{AreSetsOf}
use Rattle.leopard.proofs.building.arcs_of.Given as goal

abbrev pub invariant-loop-node : goal.invariant-loop-node
invariant-loop-node l = AreSetsOf l.groups (IsGroupArc l.input) (take l.node-index l.nodes) l.arcs.items

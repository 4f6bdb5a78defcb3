-- The arcs of groups, and who was asked for them.
use Rattle.std.specs.Prelude.{List, Contains, ◌↔◌}
use Rattle.names.specs.declared.node.Node.{Node}
use Rattle.meaning.specs.Snap.{Snap}
use Rattle.graphs.specs.Groups.{IsGroupArc}
use Rattle.delta.specs.declared.arcs.ViewArcs.{ViewArcs}

-- the nodes are all to which arcs lead from the group
abbrev pub AreEndsOf : Snap → Node → List Node → Type 0
AreEndsOf S g ends = (n : Node) → Contains ends n ↔ IsGroupArc S g n

-- the snapshot of the view that is asked
abbrev pub snap_of : ViewArcs → Snap
snap_of arcs = arcs.view.now

-- the groups that it was asked for, in order
abbrev pub asked_of : ViewArcs → List Node
asked_of arcs = arcs.asked.items

use Rattle.std.proofs.Common.{take}
use Rattle.std.specs.Prelude.{Contains}
use Rattle.names.specs.declared.node.Node.{Node}
use Rattle.leopard.specs.Finding.{IsNamedBy}
use Rattle.group_index.proofs.meeting.some_among.Given as goal

-- none of those that were gone over has one of the numbers
abbrev pub invariant-loop-node : goal.invariant-loop-node
invariant-loop-node l = (n : Node) → Contains (take l.node-index l.nodes) n → IsNamedBy l.names l.ids n → ⊥

use Rattle.std.proofs.Common.{Contains, drop}
use Rattle.std.specs.Prelude.{◌↔◌, ◌⊎◌}
use Rattle.names.specs.declared.node.Node.{Node}
use Rattle.leopard.proofs.building.push_all.Given as goal

abbrev pub invariant-loop-node : goal.invariant-loop-node
invariant-loop-node l = (n : Node) → (Contains l.nodes.items n ⊎ Contains (drop l.node-index l.more) n) ↔ (Contains l.fn.nodes.items n ⊎ Contains l.more n)

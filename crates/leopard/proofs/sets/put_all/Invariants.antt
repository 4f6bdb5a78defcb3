use Rattle.std.specs.Prelude.{◌↔◌, ◌⊎◌, Contains}
use Rattle.names.specs.declared.node.Node.{Node}
use Rattle.leopard.proofs.sets.put_all.Given as goal

abbrev pub invariant-loop-node : goal.invariant-loop-node
invariant-loop-node l = (n : Node) → (Contains l.nodes.keys n ⊎ Contains l.node-iterator n) ↔ (Contains l.initial.nodes.keys n ⊎ Contains l.fn.others.keys n)

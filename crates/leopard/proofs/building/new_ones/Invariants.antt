use Rattle.std.proofs.Common.{Contains, drop}
use Rattle.std.specs.Prelude.{◌⊎◌}
use Rattle.names.specs.declared.node.Node.{Node}
use Rattle.leopard.proofs.building.new_ones.Given as goal

abbrev pub invariant-loop-node : goal.invariant-loop-node
invariant-loop-node l = record {
  only : (n : Node) → Contains l.fresh.items n → Contains l.nodes n;
  all : (n : Node) → Contains l.nodes n → (Contains l.groups n ⊎ Contains l.fresh.items n) ⊎ Contains (drop l.node-index l.nodes) n;
}

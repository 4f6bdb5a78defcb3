use Rattle.std.proofs.Common.{Any, Contains, drop}
use Rattle.std.specs.Prelude.{◌↔◌, ◌⊎◌}
use Rattle.names.specs.declared.node.Node.{Node}
use Rattle.graphs.specs.Groups.{IsGroupArc}
use Rattle.leopard.proofs.building.ends_of_all.Given as goal

abbrev pub invariant-loop-node : goal.invariant-loop-node
invariant-loop-node l = (m : Node) → (Contains l.all.items m ⊎ Any (λ n. IsGroupArc l.input n m) (drop l.node-index l.nodes)) ↔ Any (λ n. IsGroupArc l.input n m) l.nodes

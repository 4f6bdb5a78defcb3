use Rattle.std.proofs.Common.{◌≡◌, Any, Contains, drop}
use Rattle.std.specs.Prelude.{◌↔◌, ◌⊎◌}
use Rattle.names.specs.declared.node.Node.{Node}
use Rattle.leopard.proofs.direct.put_nodes.Given as goal

abbrev pub invariant-loop-tuple : goal.invariant-loop-tuple
invariant-loop-tuple l = (n : Node) → (Contains l.groups.keys n ⊎ Any (λ t. n ≡ t.node) (drop l.tuple-index l.tuples)) ↔ (Contains l.fn.groups.keys n ⊎ Any (λ t. n ≡ t.node) l.fn.tuples)

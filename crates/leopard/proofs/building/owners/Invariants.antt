use Rattle.std.proofs.Common.{Any, Contains, drop}
use Rattle.std.specs.Prelude.{◌↔◌, ◌⊎◌}
use Rattle.names.specs.declared.node.Node.{Node}
use Rattle.leopard.specs.inside.Building.{Owns}
use Rattle.leopard.proofs.building.owners.Given as goal

abbrev pub invariant-loop-tuple : goal.invariant-loop-tuple
invariant-loop-tuple l = (n : Node) → (Contains l.groups.items n ⊎ Any (Owns l.config n) (drop l.tuple-index l.tuples)) ↔ Any (Owns l.config n) l.tuples

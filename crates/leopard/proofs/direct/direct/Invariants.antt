use Rattle.std.proofs.Common.{Any, Contains, drop}
use Rattle.std.specs.Prelude.{◌↔◌, ◌⊎◌}
use Rattle.names.specs.declared.node.Node.{Node}
use Rattle.leopard.specs.inside.Direct.{NamesIndexed}
use Rattle.leopard.proofs.direct.direct.Given as goal

abbrev pub invariant-loop-relation : goal.invariant-loop-relation
invariant-loop-relation l = (n : Node) → (Contains l.groups.keys n ⊎ Any (NamesIndexed l.view l.user n) (drop l.relation-index l.relations)) ↔ Any (NamesIndexed l.view l.user n) l.relations

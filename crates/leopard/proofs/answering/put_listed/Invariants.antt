use Rattle.std.proofs.Common.{◌≡◌, Any, Contains, drop}
use Rattle.std.specs.Prelude.{◌↔◌, ◌⊎◌, Some}
use Rattle.std.specs.List.{slice_get}
use Rattle.names.specs.declared.node.Node.{Node}
use Rattle.leopard.proofs.answering.put_listed.Given as goal

abbrev pub invariant-loop-id : goal.invariant-loop-id
invariant-loop-id l = (n : Node) → (Contains l.nodes.keys n ⊎ Any (λ id. slice_get l.groups id ≡ Some n) (drop l.id-index l.ids)) ↔ (Contains l.fn.nodes.keys n ⊎ Any (λ id. slice_get l.groups id ≡ Some n) l.fn.ids)

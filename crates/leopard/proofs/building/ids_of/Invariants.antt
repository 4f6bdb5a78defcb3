use Rattle.std.proofs.Common.{◌≡◌, ℕ, true, Any, drop}
use Rattle.std.specs.Prelude.{◌↔◌, ◌⊎◌, Some}
use Rattle.std.specs.List.{slice_get}
use Rattle.names.specs.declared.node.Node.{Node}
use Rattle.idsets.specs.Sets.{has}
use Rattle.leopard.proofs.building.ids_of.Given as goal

abbrev pub invariant-loop-node : goal.invariant-loop-node
invariant-loop-node l = (id : ℕ) → ((has l.ids.items id ≡ true) ⊎ Any (λ (n : Node). slice_get l.groups id ≡ Some n) (drop l.node-index l.nodes)) ↔ Any (λ (n : Node). slice_get l.groups id ≡ Some n) l.nodes

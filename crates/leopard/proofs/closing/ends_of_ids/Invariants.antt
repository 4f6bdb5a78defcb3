use Rattle.std.proofs.Common.{◌≡◌, ℕ, true, Any, drop}
use Rattle.std.specs.Prelude.{◌↔◌, ◌⊎◌}
use Rattle.idsets.specs.Sets.{has}
use Rattle.leopard.specs.inside.Closing.{IsIdArc}
use Rattle.leopard.proofs.closing.ends_of_ids.Given as goal

abbrev pub invariant-loop-id : goal.invariant-loop-id
invariant-loop-id l = (j : ℕ) → ((has l.ends.items j ≡ true) ⊎ Any (λ i. IsIdArc l.arcs i j) (drop l.id-index l.ids)) ↔ Any (λ i. IsIdArc l.arcs i j) l.ids

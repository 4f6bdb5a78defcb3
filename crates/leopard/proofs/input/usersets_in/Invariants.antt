use Rattle.std.proofs.Common.{◌≡◌, Any, Contains, drop}
use Rattle.std.specs.Prelude.{◌↔◌, ◌⊎◌}
use Rattle.names.specs.declared.node.Node.{Node}
use Rattle.names.specs.declared.tuple.Tuple.{Tuple}
use Rattle.meaning.specs.Snap.{set_of}
use Rattle.leopard.proofs.input.usersets_in.Given as goal

abbrev pub invariant-loop-tuple : goal.invariant-loop-tuple
invariant-loop-tuple l = (n : Node) → (Contains l.nodes.items n ⊎ Any (λ (t : Tuple). t.subject ≡ set_of n) (drop l.tuple-index l.tuples)) ↔ Any (λ (t : Tuple). t.subject ≡ set_of n) l.tuples

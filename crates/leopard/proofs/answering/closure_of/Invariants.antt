use Rattle.std.specs.Prelude.{◌↔◌, ◌⊎◌, Any}
use Rattle.names.specs.declared.node.Node.{Node}
use Rattle.leopard.specs.Index.{IsKeptOf, LeadsTo}
use Rattle.leopard.specs.Finding.{Finds, AreUnnamed}
use Rattle.leopard.proofs.answering.closure_of.Given as goal

-- what is found or left is what the group leads to
abbrev pub invariant-loop-node : goal.invariant-loop-node
invariant-loop-node l = record {
  unnamed : AreUnnamed l.built.groups l.found.others.keys;
  groups : (n : Node) → (Finds l.built.groups l.found.ids l.found.others.keys n ⊎ Any (λ h. IsKeptOf l.built h n) l.node-iterator) ↔ LeadsTo l.built l.group n;
}

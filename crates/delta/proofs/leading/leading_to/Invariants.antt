use Rattle.std.proofs.Common.{Any, Contains, drop}
use Rattle.std.specs.Prelude.{◌↔◌, ◌⊎◌}
use Rattle.names.specs.declared.node.Node.{Node}
use Rattle.config_text.specs.Forms.{defined_of}
use Rattle.delta.specs.inside.Leading.{IsOneOf}
use Rattle.delta.proofs.leading.leading_to.Given as goal

abbrev pub invariant-loop-relation : goal.invariant-loop-relation
invariant-loop-relation l = (n : Node) → (Contains l.groups.items n ⊎ Any (λ r. IsOneOf l.config (defined_of r) l.node n) (drop l.relation-index l.relations))
    ↔ Any (λ r. IsOneOf l.config (defined_of r) l.node n) l.relations

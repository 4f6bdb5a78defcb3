use Rattle.std.proofs.Common.{drop, map}
use Rattle.std.specs.Prelude.{◌↔◌, ◌⊎◌, Contains}
use Rattle.names.specs.declared.node.Node.{Node}
use Rattle.config_text.specs.Forms.{form_of, forms_of}
use Rattle.leopard.specs.inside.Asking.{IsSomeComputed}
use Rattle.delta.proofs.computed.+computing.Given as goal

-- what is gathered or left is what was there or is computed
abbrev pub invariant-push_all_computed-loop-part : goal.invariant-push_all_computed-loop-part
invariant-push_all_computed-loop-part l = (n : Node) → (Contains l.nodes.items n ⊎ IsSomeComputed l.object (forms_of (map form_of (drop l.part-index l.parts))) n)
    ↔ (Contains l.initial.nodes.items n ⊎ IsSomeComputed l.object (forms_of (map form_of l.parts)) n)

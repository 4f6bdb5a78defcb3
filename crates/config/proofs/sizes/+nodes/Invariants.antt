use Rattle.std.proofs.Common.{◌≡◌, ◌+◌, drop, map}
use Rattle.config_text.specs.Forms.{form_of, forms_of}
use Rattle.config_text.specs.Size.{forms_nodes}
use Rattle.config.proofs.sizes.+nodes.Given as goal

abbrev pub invariant-all_nodes_left-loop-part : goal.invariant-all_nodes_left-loop-part
invariant-all_nodes_left-loop-part l = forms_nodes (forms_of (map form_of l.parts)) + l.left ≡ forms_nodes (forms_of (map form_of (drop l.part-index l.parts))) + l.nodes

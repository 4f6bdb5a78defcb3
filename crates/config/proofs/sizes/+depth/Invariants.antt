use Rattle.std.proofs.Common.{◌≤◌, drop, map}
use Rattle.std.specs.Prelude.{◌↔◌}
use Rattle.config_text.specs.Forms.{form_of, forms_of}
use Rattle.config_text.specs.Size.{forms_depth}
use Rattle.config.proofs.sizes.+depth.Given as goal

abbrev pub invariant-are_shallow-loop-part : goal.invariant-are_shallow-loop-part
invariant-are_shallow-loop-part l = (forms_depth (forms_of (map form_of (drop l.part-index l.parts))) ≤ l.depth) ↔ (forms_depth (forms_of (map form_of l.parts)) ≤ l.depth)

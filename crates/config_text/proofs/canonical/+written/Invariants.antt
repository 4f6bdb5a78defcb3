use Rattle.std.proofs.Common.{◌≡◌, take, map}
use Rattle.serde_json.specs.View.{view}
use Rattle.config_text.specs.Forms.{form_of}
use Rattle.config_text.specs.Canonical.{form_data}
use Rattle.config_text.proofs.canonical.+written.Given as goal

abbrev pub invariant-rewrite_values-loop-part : goal.invariant-rewrite_values-loop-part
invariant-rewrite_values-loop-part l = map view l.values.items ≡ map (λ r. form_data (form_of r)) (take l.part-index l.parts)

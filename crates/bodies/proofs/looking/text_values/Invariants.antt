use Rattle.std.proofs.Common.{◌≡◌, ℕ, List, take, map}
use Rattle.serde_json.specs.Data.{string}
use Rattle.serde_json.specs.View.{view}
use Rattle.names.specs.Spelling.{object_text}
use Rattle.bodies.specs.Looking.{object_in}
use Rattle.bodies.proofs.looking.text_values.Given as goal

abbrev pub invariant-loop-id : goal.invariant-loop-id
invariant-loop-id l = map view l.values.items ≡ map (λ id. string (object_text (object_in l.namespace id))) (take l.id-index l.ids)

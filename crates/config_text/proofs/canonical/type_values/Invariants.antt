use Rattle.std.proofs.Common.{◌≡◌, take, map}
use Rattle.serde_json.specs.Data.{string}
use Rattle.serde_json.specs.View.{view}
use Rattle.names.specs.Spelling.{type_text}
use Rattle.config_text.proofs.canonical.type_values.Given as goal

abbrev pub invariant-loop-declared : goal.invariant-loop-declared
invariant-loop-declared l = map view l.values.items ≡ map (λ t. string (type_text t)) (take l.declared-index l.types)

use Rattle.std.proofs.Common.{◌≡◌, take, map}
use Rattle.serde_json.specs.Data.{string}
use Rattle.serde_json.specs.View.{view}
use Rattle.names.specs.Spelling.{tuple_text}
use Rattle.bodies.proofs.paging.tuple_values.Given as goal

abbrev pub invariant-loop-tuple : goal.invariant-loop-tuple
invariant-loop-tuple l = map view l.values.items ≡ map (λ t. string (tuple_text t)) (take l.tuple-index l.tuples)

use Rattle.std.proofs.Common.{◌≡◌, take, map}
use Rattle.serde_json.specs.Data.{string}
use Rattle.serde_json.specs.View.{view}
use Rattle.names.specs.Spelling.{node_text}
use Rattle.bodies.proofs.grouping.node_values.Given as goal

abbrev pub invariant-loop-node : goal.invariant-loop-node
invariant-loop-node l = map view l.values.items ≡ map (λ n. string (node_text n)) (take l.node-index l.nodes)

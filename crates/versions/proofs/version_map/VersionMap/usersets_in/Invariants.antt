use Rattle.std.proofs.Common.{◌++◌, ◌∷◌, []}
use Rattle.tuple_keys.specs.Spelled.{spelled_node}
use Rattle.tuple_keys.specs.Named.{node_in, is_within}
use Rattle.versions.proofs.Going.{Left}
use Rattle.versions.proofs.version_map.VersionMap.usersets_in.Given as goal

abbrev pub invariant-loop-text : goal.invariant-loop-text
invariant-loop-text l =
    Left (λ t. node_in t.subject) (spelled_node l.node ++ (l.namespace ++ 32 ∷ [])) (is_within l.node l.namespace) l.rev l.self l.fn.nodes.items l.nodes.items l.text-iterator

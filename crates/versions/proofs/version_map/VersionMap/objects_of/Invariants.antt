use Rattle.std.proofs.Common.{[]}
use Rattle.tuple_keys.specs.Spelled.{spelled_node}
use Rattle.tuple_keys.specs.Named.{is_of}
use Rattle.tuple_keys.specs.Named.{object_in}
use Rattle.versions.proofs.Going.{Left}
use Rattle.versions.proofs.version_map.VersionMap.objects_of.Given as goal

abbrev pub invariant-loop-text : goal.invariant-loop-text
invariant-loop-text l = Left (λ t. object_in t.subject) (spelled_node l.node) (is_of l.node) l.rev l.self [] l.objects.items l.text-iterator

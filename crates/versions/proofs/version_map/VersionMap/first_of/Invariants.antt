use Rattle.std.proofs.Common.{[], ◌≤◌, length}
use Rattle.std.specs.Prelude.{Some}
use Rattle.tuple_keys.specs.Spelled.{spelled_node}
use Rattle.tuple_keys.specs.Named.{is_of}
use Rattle.versions.proofs.Going.{Left}
use Rattle.versions.proofs.version_map.VersionMap.first_of.Given as goal

-- what is left, and no more was found than is wanted
abbrev pub invariant-loop-text : goal.invariant-loop-text
invariant-loop-text l = Left Some (spelled_node l.node) (is_of l.node) l.rev l.self [] l.tuples.items l.text-iterator × (length l.tuples.items ≤ l.most)

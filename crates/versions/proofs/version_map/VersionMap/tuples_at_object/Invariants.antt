use Rattle.std.proofs.Common.{[]}
use Rattle.std.specs.Prelude.{Some}
use Rattle.tuple_keys.specs.Spelled.{spelled_object}
use Rattle.tuple_keys.specs.Named.{is_at}
use Rattle.versions.proofs.Going.{Left}
use Rattle.versions.proofs.Counting.{Counted}
use Rattle.versions.proofs.version_map.VersionMap.tuples_at_object.Given as goal

abbrev pub invariant-loop-text : goal.invariant-loop-text
invariant-loop-text l = record {
  left : Left Some (spelled_object l.object) (is_at l.object) l.rev l.self [] l.tuples.items l.text-iterator;
  counted : Counted (is_at l.object) l.self l.text-iterator l.most l.more;
}

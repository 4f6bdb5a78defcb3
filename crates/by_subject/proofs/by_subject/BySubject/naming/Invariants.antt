use Rattle.tuple_keys.specs.Named.{is_at}
use Rattle.tuple_keys.specs.Spelled.{spelled_object}
use Rattle.by_subject.specs.inside.Texts.{namer_in}
use Rattle.by_subject.proofs.Going.{Left}
use Rattle.by_subject.proofs.Counting.{Counted}
use Rattle.by_subject.proofs.by_subject.BySubject.naming.Given as goal

abbrev pub invariant-loop-text : goal.invariant-loop-text
invariant-loop-text l = record {
  left : Left namer_in (spelled_object l.object) (is_at l.object) l.self l.nodes.items l.text-iterator;
  counted : Counted (is_at l.object) l.self l.text-iterator l.most l.more;
}

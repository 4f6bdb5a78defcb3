use Rattle.tuple_keys.specs.Named.{is_of}
use Rattle.tuple_keys.specs.Spelled.{spelled_node}
use Rattle.by_subject.specs.inside.Texts.{set_namer_in}
use Rattle.by_subject.proofs.Going.{Left}
use Rattle.by_subject.proofs.Counting.{Counted}
use Rattle.by_subject.proofs.by_subject.BySubject.naming_members_of.Given as goal

abbrev pub invariant-loop-text : goal.invariant-loop-text
invariant-loop-text l = record {
  left : Left set_namer_in (spelled_node l.node) (is_of l.node) l.self l.nodes.items l.text-iterator;
  counted : Counted (is_of l.node) l.self l.text-iterator l.most l.more;
}

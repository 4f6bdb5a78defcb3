use Rattle.std.proofs.Common.{ap, ap₂, sym, subst, ◌∙◌}
use Rattle.names.specs.declared.tuple.Tuple.{Tuple}
use Rattle.meaning.specs.TupleSet as set
use Rattle.meaning.specs.TupleSet.{Tuples}
use Rattle.by_subject.specs.inside.Texts.{Texts, found_in, AreSpelled}
use Rattle.by_subject.proofs.Keeping.{spelled_insert, found_insert}
use Rattle.by_subject.proofs.by_subject.BySubject.note.Goals as goal

pub invariant_of-self-2 : goal.invariant_of-self-2
invariant_of-self-2 c = subst AreSpelled (sym c.in_ok-insert.ensures.entries) (spelled_insert c.as_str.result.now c.as_str.ensures.spelling c.self.inside.texts c.self.invariant)

pub returns-clause-ok : goal.returns-clause-ok
returns-clause-ok c =
    ap (λ (es : Texts). found_in es) c.in_ok-insert.ensures.entries
    ∙ found_insert c.as_str.result.now c.as_str.ensures.spelling c.self.inside.texts
    ∙ ap₂ (λ (s : Tuples) (t : Tuple). set.insert s t) c.self.view_is (c.as_str.ensures.read ∙ c.tuple_ref-key.ensures ∙ c.of-scratch.ensures ∙ c.turned.ensures)

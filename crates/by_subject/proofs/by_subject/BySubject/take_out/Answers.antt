use Rattle.std.proofs.Common.{ap, sym, subst, ◌∙◌}
use Rattle.names.specs.Order.{is_same_tuple}
use Rattle.names.specs.declared.tuple.Tuple.{Tuple}
use Rattle.meaning.specs.TupleSet as set
use Rattle.meaning.specs.TupleSet.{Tuples}
use Rattle.by_subject.specs.inside.Texts.{Texts, found_in, AreSpelled}
use Rattle.by_subject.proofs.Forgotten.{spelled_out, others_stay}
use Rattle.by_subject.proofs.by_subject.BySubject.take_out.Goals as goal

pub invariant_of-self : goal.invariant_of-self
invariant_of-self c = subst AreSpelled (sym c.remove.ensures.entries) (spelled_out c.as_str.result.now c.self.inside.texts c.self.invariant)

pub returns : goal.returns
returns c = λ u other has.
    ap (λ (es : Texts). set.contains (found_in es) u) c.remove.ensures.entries
    ∙ others_stay c.as_str.result.now c.self.inside.texts u
    (ap (λ (t : Tuple). is_same_tuple u t) c.as_str.ensures.read ∙ other)
    (ap (λ (s : Tuples). set.contains s u) c.self.view_is ∙ has)

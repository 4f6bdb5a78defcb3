use Rattle.std.proofs.Common.{ap, sym, subst, List, ℕ, ◌∙◌}
use Rattle.std.specs.Prelude.{IsTrue}
use Rattle.names.specs.Names.{is_name, is_id}
use Rattle.names.specs.declared.tuple.Tuple.{Tuple}
use Rattle.decide.proofs.Few.{object_parts}
use Rattle.decide.proofs.ReadTuples.{subject_is}
use Rattle.decide.proofs.read_tuple.ReadTuple.object.Goals as goal

pub object_of-requires-clause-namespace : goal.object_of-requires-clause-namespace
object_of-requires-clause-namespace c =
    subst (λ (n : List ℕ). IsTrue (is_name n)) (sym c.self.invariant.1)
    (subject_is c.as_str.result.now c.self.inside.tuple c.as_str.ensures.spelling c.as_str.ensures.read).0.0

pub object_of-requires-clause-id : goal.object_of-requires-clause-id
object_of-requires-clause-id c =
    subst (λ (n : List ℕ). IsTrue (is_id n)) (sym c.self.invariant.2)
    (subject_is c.as_str.result.now c.self.inside.tuple c.as_str.ensures.spelling c.as_str.ensures.read).0.1

pub returns : goal.returns
returns c =
    object_parts c.object_of.result c.args.self.now.subject.object
    (c.object_of.ensures.0 ∙ c.self.invariant.1 ∙ ap (λ (t : Tuple). t.subject.object.namespace) c.self.view_is)
    (c.object_of.ensures.1 ∙ c.self.invariant.2 ∙ ap (λ (t : Tuple). t.subject.object.id) c.self.view_is)

use Rattle.std.proofs.Common.{◌++◌, ◌∷◌, [], ◌∙◌, ap, sym, List}
use Rattle.std.specs.Prelude.{filter}
use Rattle.std.proofs.lemmas.List.{take_all}
use Rattle.names.specs.declared.object.Object.{Object}
use Rattle.names.specs.declared.tuple.Tuple.{Tuple}
use Rattle.versions.specs.Named.{objects_in}
use Rattle.tuple_keys.specs.Named.{is_of, object_in}
use Rattle.decide.proofs.Few.{picked_more}
use Rattle.decide.proofs.ReadTuples.{each_at}
use Rattle.decide.proofs.facts.named_objects.Goals as goal

pub push_object-requires : goal.push_object-requires
push_object-requires c = each_at c.args.node.now.object c.args.tuples.now c.loop-tuple.tuple-index c.tuple-item.result c.requires c.loop-tuple-test.true c.tuple-item.is

pub loop-tuple-preserved : goal.loop-tuple-preserved
loop-tuple-preserved c =
    let n = c.args.node.now in
    let x = c.tuple-item.result in
    c.in_ok-push_object.ensures
    ∙ ap (λ (ys : List Object). ys ++ objects_in (filter (is_of n) (x ∷ []))) c.loop-tuple.invariant
    ∙ sym (picked_more (λ (t : Tuple). object_in t.subject) (is_of n) c.args.tuples.now c.loop-tuple.tuple-index x c.loop-tuple-test.true c.tuple-item.is)

pub returns : goal.returns
returns c = c.loop-tuple.invariant ∙ ap (λ (ts : List Tuple). objects_in (filter (is_of c.args.node.now) ts)) (take_all c.loop-tuple.tuple-index c.args.tuples.now c.loop-tuple-test.false)

use Rattle.std.proofs.Common.{◌≡◌}
use Rattle.std.specs.Prelude.{◌↔◌, ◌⊎◌, Contains}
use Rattle.names.specs.declared.object.Object.{Object}
use Rattle.plain.specs.inside.Source.{IsOf}
use Rattle.plain.proofs.Gather.{gather_more, gather_all, pushed, had}
use Rattle.plain.proofs.levels.objects_of.Goals as goal

pub loop-tuple-preserved-in-Continue-1 : goal.loop-tuple-preserved-in-Continue-1
loop-tuple-preserved-in-Continue-1 c =
    let object = c.in-Some.tuple.now.node.object in
    let step : (o : Object) → Contains c.push_object.new.objects.items o ↔ (Contains c.loop-tuple.objects.items o ⊎ (object ≡ o)) = λ o. rw c.in_ok-push_object.ensures (pushed c.loop-tuple.objects.items object o) in
    gather_more IsOf c.args.tuples.now.keys (Contains c.loop-tuple.objects.items) (Contains c.push_object.new.objects.items) c.loop-tuple.tuple-iterator c.in-Some.tuple.now c.next.new.self c.in-Some.ensures.steps c.loop-tuple.invariant step

pub loop-tuple-preserved : goal.loop-tuple-preserved
loop-tuple-preserved c =
    let object = c.in-Some.tuple.now.node.object in
    let last : Contains c.loop-tuple.objects.items object = rw c.deref.ensures.value at c.if-not-ends_in.ensures in
    gather_more IsOf c.args.tuples.now.keys (Contains c.loop-tuple.objects.items) (Contains c.loop-tuple.objects.items) c.loop-tuple.tuple-iterator c.in-Some.tuple.now c.next.new.self c.in-Some.ensures.steps c.loop-tuple.invariant (λ o. had c.loop-tuple.objects.items object o last)

pub returns : goal.returns
returns c = gather_all IsOf c.args.tuples.now.keys (Contains c.loop-tuple.objects.items) c.loop-tuple.tuple-iterator c.in-None.ensures.steps.0 c.loop-tuple.invariant

use Rattle.std.proofs.Common.{◌≡◌, ◌∙◌, ap, subst, sym}
use Rattle.std.specs.Prelude.{◌↔◌, Contains, IfSome, filter}
use Rattle.names.specs.declared.node.Node.{Node}
use Rattle.names.specs.declared.object.Object.{Object}
use Rattle.meaning.specs.Membership.{HasOne}
use Rattle.meaning.specs.TupleSet as set
use Rattle.tuple_keys.specs.Named.{is_at}
use Rattle.decide.specs.inside.Reading.{AreNamed}
use Rattle.decide.proofs.ReadTuples.{AreAt}
use Rattle.decide.proofs.Few.{few_objects}
use Rattle.decide.proofs.reads.named_by.Goals as goal

pub returns : goal.returns
returns c = λ S is.
    let o = c.args.object.now in
    let from = c.node_of-from.result in
    let objects = c.in_ok-objects.objects.items in
    let tuples = c.as_slice.result.now in
    let read : c.in-Some.tuples.items ≡ filter (is_at o) (set.items S.tuples) = subst (λ f. IfSome f (λ v. v.items ≡ filter (is_at o) (set.items S.tuples))) c.in-Some.is is in
    let all : tuples ≡ filter (is_at o) (set.items S.tuples) = c.as_slice.ensures.value ∙ read in
    let its : tuples ≡ filter (is_at from.object) (set.items S.tuples) = subst (λ (n : Node). tuples ≡ filter (is_at n.object) (set.items S.tuples)) (sym c.node_of-from.ensures) all in
    let named : (p : Object) → Contains objects p ↔ HasOne S from p = few_objects S from tuples its objects c.in_ok-objects.ensures in
    let here : AreNamed S o c.in-Some-tupleset_of.tupleset.now objects = subst (λ (n : Node). (p : Object) → Contains objects p ↔ HasOne S n p) c.node_of-from.ensures named in
    subst (λ t. AreNamed S o t objects) (sym c.again.ensures) here

pub named_objects-requires : goal.named_objects-requires
named_objects-requires c =
    let o = c.args.object.now in
    let read : AreAt o c.in-Some.tuples.items = subst (λ f. IfSome f (λ v. AreAt o v.items)) c.in-Some.is c.requires in
    subst (λ (p : Object). AreAt p c.as_slice.result.now) (sym (ap (λ (n : Node). n.object) c.node_of-from.ensures)) (subst (AreAt o) (sym c.as_slice.ensures.value) read)

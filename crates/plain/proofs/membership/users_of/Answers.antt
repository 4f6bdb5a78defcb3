use Rattle.std.proofs.Common.{◌≡◌, ap, sym, ◌∙◌, inl, inr, ⊎_elim}
use Rattle.std.specs.Prelude.{Contains, None, is_some}
use Rattle.plain.specs.inside.Source.{Names}
use Rattle.plain.proofs.Gather.{gather_more, gather_all}
use Rattle.plain.proofs.OrderedSets.{names_one, none_from}
use Rattle.plain.proofs.membership.users_of.Goals as goal

pub loop-tuple-preserved-in-Continue-1 : goal.loop-tuple-preserved-in-Continue-1
loop-tuple-preserved-in-Continue-1 c =
    let tuple = c.in-Some.tuple.now in
    let none : tuple.subject.relation ≡ None = none_from tuple.subject.relation c.if-is_none.ensures in
    gather_more Names c.args.tuples.now.keys (Contains c.loop-tuple.users.keys) (Contains c.add_object.new.objects.keys) c.loop-tuple.tuple-iterator tuple c.next.new.self c.in-Some.ensures.steps c.loop-tuple.invariant
    (λ u. (
      λ n. ⊎_elim inl (λ is. inr (names_one tuple u none is)) ((c.in_ok-add_object.ensures u).0 n),
      λ h. (c.in_ok-add_object.ensures u).1 (⊎_elim inl (λ is. inr (ap (λ s. s.object) is)) h),
    ))

pub loop-tuple-preserved : goal.loop-tuple-preserved
loop-tuple-preserved c =
    let tuple = c.in-Some.tuple.now in
    gather_more Names c.args.tuples.now.keys (Contains c.loop-tuple.users.keys) (Contains c.loop-tuple.users.keys) c.loop-tuple.tuple-iterator tuple c.next.new.self c.in-Some.ensures.steps c.loop-tuple.invariant
    (λ u. (λ h. inl h, λ h. ⊎_elim (λ k. k) (λ is. let e = sym (ap (λ s. is_some s.relation) is) ∙ c.if-is_none.ensures in cc) h))

pub returns : goal.returns
returns c = gather_all Names c.args.tuples.now.keys (Contains c.loop-tuple.users.keys) c.loop-tuple.tuple-iterator c.in-None.ensures.steps.0 c.loop-tuple.invariant

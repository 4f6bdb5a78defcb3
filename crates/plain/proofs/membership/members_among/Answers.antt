use Rattle.std.proofs.Common.{sym, ◌∙◌, subst, inl, inr, ⊎_elim}
use Rattle.std.specs.Prelude.{Contains}
use Rattle.meaning.specs.Membership.{IsMember}
use Rattle.plain.specs.inside.Source.{snap_of}
use Rattle.plain.proofs.Gather.{gather_more, gather_all}
use Rattle.plain.proofs.OrderedSets.{Joins, joins_any}
use Rattle.plain.proofs.membership.members_among.Goals as goal

pub loop-user-preserved-in-Continue-branch-2 : goal.loop-user-preserved-in-Continue-branch-2
loop-user-preserved-in-Continue-branch-2 c =
    let S = snap_of c.args.source.now in
    let member : IsMember S c.in-Some.user.now c.args.node.now = c.in_ok-is_member.ensures.0 c.if-branch.true in
    gather_more (Joins S c.args.node.now) c.args.users.now.keys (Contains c.loop-user.members.keys) (Contains c.add_object.new.objects.keys) c.loop-user.user-iterator c.in-Some.user.now c.next.new.self c.in-Some.ensures.steps c.loop-user.invariant
    (λ u. (
      λ n. ⊎_elim inl (λ is. inr (is, subst (λ x. IsMember S x c.args.node.now) is member)) ((c.in_ok-add_object.ensures u).0 n),
      λ h. (c.in_ok-add_object.ensures u).1 (⊎_elim inl (λ joins. inr joins.0) h),
    ))

pub loop-user-preserved : goal.loop-user-preserved
loop-user-preserved c =
    let S = snap_of c.args.source.now in
    gather_more (Joins S c.args.node.now) c.args.users.now.keys (Contains c.loop-user.members.keys) (Contains c.loop-user.members.keys) c.loop-user.user-iterator c.in-Some.user.now c.next.new.self c.in-Some.ensures.steps c.loop-user.invariant
    (λ u. (
      λ h. inl h,
      λ h. ⊎_elim (λ k. k) (λ joins. let e = sym c.if-branch.false ∙ c.in_ok-is_member.ensures.1 (subst (λ x. IsMember S x c.args.node.now) (sym joins.0) joins.1) in cc) h,
    ))

pub returns : goal.returns
returns c = λ u.
    let S = snap_of c.args.source.now in
    let all = gather_all (Joins S c.args.node.now) c.args.users.now.keys (Contains c.loop-user.members.keys) c.loop-user.user-iterator c.in-None.ensures.steps.0 c.loop-user.invariant u in
    let joins = joins_any S c.args.node.now c.args.users.now.keys u in
    (λ h. joins.0 (all.0 h), λ m. all.1 (joins.1 m))

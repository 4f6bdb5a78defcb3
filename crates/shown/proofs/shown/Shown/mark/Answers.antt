use Rattle.shown.proofs.Taking.{sound_unkept, sound_remarked}
use Rattle.shown.proofs.shown.Shown.mark.Goals as goal

pub invariant_of-self-then-not-self : goal.invariant_of-self-then-not-self
invariant_of-self-then-not-self c =
    (sound_unkept _ c.self.inside.groups c.self.inside.members c.take-kept.new.self c.remark.new.marks.items c.args.marking.now c.self.invariant.0 c.in_ok-remark.ensures.ok c.take-kept.ensures.after, c.self.invariant.1)

pub invariant_of-self-2 : goal.invariant_of-self-2
invariant_of-self-2 c = (
  sound_remarked _ c.self.inside.groups c.self.inside.members c.members_after.result c.remark.new.marks.items c.args.marking.now c.self.invariant.0 c.in_ok-remark.ensures.ok
      c.take-kept.result c.deref.result.now c.at-view.result c.take-kept.ensures.value c.deref.ensures.value c.at-view.ensures c.members_after.ensures.hot c.members_after.ensures.marked,
  c.self.invariant.1,
)

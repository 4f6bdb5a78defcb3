use Rattle.std.proofs.Common.{◌∙◌}
use Rattle.shown.proofs.Taking.{sound_hot}
use Rattle.shown.proofs.shown.Shown.take_hot.Goals as goal

pub invariant_of-self : goal.invariant_of-self
invariant_of-self c =
    let done = c.members_up_to.ensures in (
      sound_hot _ c.args.self.now _ c.self-2.inside.groups c.self-2.inside.members c.members_up_to.result c.args.commits c.cursor_after-to.result (c.self-2.view_is ∙ done.same) c.self.view_is
          c.cursor_after-to.ensures.cursor_after done.members done.marked c.self-2.invariant.0,
      c.self-2.invariant.1,
    )

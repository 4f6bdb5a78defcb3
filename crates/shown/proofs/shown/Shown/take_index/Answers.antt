use Rattle.std.proofs.Common.{◌∙◌}
use Rattle.shown.proofs.Taking.{sound_taken}
use Rattle.shown.proofs.shown.Shown.take_index.Goals as goal

pub invariant_of-self : goal.invariant_of-self
invariant_of-self c =
    let done = c.groups_up_to.ensures in (
      sound_taken _ c.args.self.now _ c.self-2.inside.groups c.groups_up_to.result c.self-2.inside.members c.args.commits c.last_config-self-inside.result c.cursor_after-to.result
          (c.self-2.view_is ∙ done.same) c.self.view_is c.cursor_after-to.ensures.cursor_after c.last_config-self-inside.ensures done.index c.self-2.invariant.0,
      c.self-2.invariant.1,
    )

use Rattle.std.proofs.Common.{sym, subst}
use Rattle.shown.specs.Standing.{HasRoom}
use Rattle.published.proofs.Following.{next_room}
use Rattle.published.proofs.copy.ShownCopyAbsorbPost.absorb_first.Goals as goal

pub apply-requires : goal.apply-requires
apply-requires g c =
    subst (HasRoom c.self.inside.shown) (sym c.step-in-None.ensures)
    (next_room (record { shown = c.self.inside.shown; prefix = c.self.inside.prefix }) c.args.post.now c.self.invariant.1 c.is_next_of.ensures.judged (c.is_next_of.ensures.next c.if-not-is_next_of.false))

pub apply_with-requires-clause-room : goal.apply_with-requires-clause-room
apply_with-requires-clause-room g c =
    subst (HasRoom c.self.inside.shown) (sym c.step.ensures)
    (next_room (record { shown = c.self.inside.shown; prefix = c.self.inside.prefix }) c.args.post.now c.self.invariant.1 c.is_next_of.ensures.judged (c.is_next_of.ensures.next c.if-not-is_next_of.false))

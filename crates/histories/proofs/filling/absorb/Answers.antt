use Rattle.std.proofs.Common.{sym, subst}
use Rattle.rows.specs.Retained.{HasRoom}
use Rattle.rows.proofs.Admission.{room_unless_refused}
use Rattle.histories.proofs.filling.absorb.Goals as goal

pub absorb-requires : goal.absorb-requires
absorb-requires c =
    subst (HasRoom c.args.rows.now) (sym c.requires)
    (room_unless_refused c.args.rows.now c.args.commit.now c.in_ok-refuses.field-0 c.admits_its_tuples.ensures.newest c.in_ok-refuses.ensures c.if-branch.false)

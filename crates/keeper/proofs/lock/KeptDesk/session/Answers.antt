use Rattle.std.proofs.Common.{refl}
use Rattle.keeper.specs.declared.deeds.Deed.TheVariants.{Seated}
use Rattle.keeper.proofs.Doing.{done_to, kept_by, kept_next, seated}
use Rattle.keeper.proofs.lock.KeptDesk.session.Goals as goal

pub invariant_of-self : goal.invariant_of-self
invariant_of-self g c =
    let given = c.session-given in
    let after = given.new.self in
    kept_next g.T.Tables c.self.inside.desk after g.J.Naming.book g.J.KeeperName.starts Seated c.new-place.result c.note.new.self c.new-place.new.log c.note.new.log
    (kept_by g.T.Tables g.J.Naming.book g.J.KeeperName.starts c.self.inside.desk c.self.inside.log c.new-place.new.log c.new-place.ensures.same c.self.invariant)
    (seated g.T.Tables c.self.inside.desk after given.result given.ensures.more given.ensures.same given.ensures.seats given.ensures.err) (c.note.ensures Seated refl)

pub invariant_of-self-2 : goal.invariant_of-self-2
invariant_of-self-2 g c =
    let given = c.session-given in
    let after = given.new.self in
    kept_next g.T.Tables c.self.inside.desk after g.J.Naming.book g.J.KeeperName.starts Seated c.new-place.result c.note.new.self c.new-place.new.log c.note.new.log
    (kept_by g.T.Tables g.J.Naming.book g.J.KeeperName.starts c.self.inside.desk c.self.inside.log c.new-place.new.log c.new-place.ensures.same c.self.invariant)
    (seated g.T.Tables c.self.inside.desk after given.result given.ensures.more given.ensures.same given.ensures.seats given.ensures.err) (c.note.ensures Seated refl)

pub returns-in-Ok-clause-noted : goal.returns-in-Ok-clause-noted
returns-in-Ok-clause-noted g c =
    let given = c.session-given in
    let after = given.new.self in (
      c.new-place.result,
      c.new-place.ensures.mine,
      done_to g.T.Tables c.self.inside.desk after g.J.Naming.book g.J.KeeperName.starts Seated c.new-place.result c.note.new.self c.new-place.new.log c.note.new.log c.args.self.now c.self.view_is
          (kept_by g.T.Tables g.J.Naming.book g.J.KeeperName.starts c.self.inside.desk c.self.inside.log c.new-place.new.log c.new-place.ensures.same c.self.invariant)
          (seated g.T.Tables c.self.inside.desk after given.result given.ensures.more given.ensures.same given.ensures.seats given.ensures.err) (c.note.ensures Seated refl),
    )

pub returns-in-Ok-clause-sound : goal.returns-in-Ok-clause-sound
returns-in-Ok-clause-sound g c =
    let seen = c.see.ensures in
    record { of_the_book = (invariant_of-self g c).0; beginning = seen.beginning; judged = seen.judged; agrees = seen.agrees; settled = seen.settled }

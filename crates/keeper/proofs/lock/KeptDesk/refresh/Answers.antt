use Rattle.std.proofs.Common.{refl}
use Rattle.keeper.specs.declared.deeds.Deed.TheVariants.{Refreshed}
use Rattle.keeper.proofs.Doing.{done_to, kept_next}
use Rattle.keeper.proofs.lock.KeptDesk.refresh.Goals as goal

pub invariant_of-self : goal.invariant_of-self
invariant_of-self g c =
    let shown = c.refresh-receipt in
    let after = shown.new.self in
    kept_next g.T.Tables c.self.inside.desk after g.J.Naming.book g.J.KeeperName.starts (Refreshed) c.args.place.now c.note.new.self c.self.inside.log c.note.new.log
    c.self.invariant ((shown.ensures.more, shown.ensures.same), shown.ensures.seats) (c.note.ensures Refreshed refl)

pub returns-clause-noted : goal.returns-clause-noted
returns-clause-noted g c =
    let shown = c.refresh-receipt in
    let after = shown.new.self in
    done_to g.T.Tables c.self.inside.desk after g.J.Naming.book g.J.KeeperName.starts (Refreshed) c.args.place.now c.note.new.self c.self.inside.log c.note.new.log c.args.self.now c.self.view_is
    c.self.invariant ((shown.ensures.more, shown.ensures.same), shown.ensures.seats) (c.note.ensures Refreshed refl)

pub returns-clause-sound : goal.returns-clause-sound
returns-clause-sound g c =
    let seen = c.see.ensures in
    record { of_the_book = (invariant_of-self g c).0; beginning = seen.beginning; judged = seen.judged; agrees = seen.agrees; settled = seen.settled }

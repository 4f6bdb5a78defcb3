use Rattle.std.proofs.Common.{refl}
use Rattle.keeper.specs.declared.deeds.Deed.TheVariants.{Changed}
use Rattle.keeper.proofs.Doing.{changed, done_to, kept_next}
use Rattle.keeper.proofs.lock.KeptDesk.change.Goals as goal

pub invariant_of-self : goal.invariant_of-self
invariant_of-self g c =
    let done = c.change-done in
    let after = done.new.self in
    kept_next g.T.Tables c.self.inside.desk after g.J.Naming.book g.J.KeeperName.starts (Changed) c.args.place.now c.note.new.self c.self.inside.log c.note.new.log
    c.self.invariant (changed g.T.Tables c.self.inside.desk after (λ p. p.made) (λ p. p.receipt) c.args.change done.result done.ensures.ok done.ensures.err, done.ensures.seats) (c.note.ensures Changed refl)

pub returns-clause-noted : goal.returns-clause-noted
returns-clause-noted g c =
    let done = c.change-done in
    let after = done.new.self in
    done_to g.T.Tables c.self.inside.desk after g.J.Naming.book g.J.KeeperName.starts (Changed) c.args.place.now c.note.new.self c.self.inside.log c.note.new.log c.args.self.now c.self.view_is
    c.self.invariant (changed g.T.Tables c.self.inside.desk after (λ p. p.made) (λ p. p.receipt) c.args.change done.result done.ensures.ok done.ensures.err, done.ensures.seats) (c.note.ensures Changed refl)

pub returns-clause-sound : goal.returns-clause-sound
returns-clause-sound g c =
    let seen = c.see.ensures in
    record { of_the_book = (invariant_of-self g c).0; beginning = seen.beginning; judged = seen.judged; agrees = seen.agrees; settled = seen.settled }

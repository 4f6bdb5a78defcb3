use Rattle.keeper.specs.declared.deeds.Deed.TheVariants.{CaughtUp}
use Rattle.keeper.proofs.Doing.{caught_up, done_to, kept_next}
use Rattle.keeper.proofs.lock.KeptDesk.catch_up.Goals as goal

pub invariant_of-self : goal.invariant_of-self
invariant_of-self g c =
    let taken = c.catch_up-taken in
    let after = taken.new.self in
    kept_next g.T.Tables c.self.inside.desk after g.J.Naming.book g.J.KeeperName.starts (CaughtUp c.args.part c.args.commits) c.args.place.now c.note_caught_up.new.self c.self.inside.log c.note_caught_up.new.log
    c.self.invariant (caught_up g.T.Tables c.self.inside.desk after (λ p. p.value) (λ p. p.receipt) c.args.part c.args.commits taken.result taken.ensures.ok taken.ensures.err, taken.ensures.seats) c.note_caught_up.ensures

pub returns-clause-noted : goal.returns-clause-noted
returns-clause-noted g c =
    let taken = c.catch_up-taken in
    let after = taken.new.self in
    done_to g.T.Tables c.self.inside.desk after g.J.Naming.book g.J.KeeperName.starts (CaughtUp c.args.part c.args.commits) c.args.place.now c.note_caught_up.new.self c.self.inside.log c.note_caught_up.new.log c.args.self.now c.self.view_is
    c.self.invariant (caught_up g.T.Tables c.self.inside.desk after (λ p. p.value) (λ p. p.receipt) c.args.part c.args.commits taken.result taken.ensures.ok taken.ensures.err, taken.ensures.seats) c.note_caught_up.ensures

pub returns-clause-sound : goal.returns-clause-sound
returns-clause-sound g c =
    let seen = c.see.ensures in
    record { of_the_book = (invariant_of-self g c).0; beginning = seen.beginning; judged = seen.judged; agrees = seen.agrees; settled = seen.settled }

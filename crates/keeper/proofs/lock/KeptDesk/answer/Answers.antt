use Rattle.std.proofs.Common.{subst}
use Rattle.names.specs.Calls.{told}
use Rattle.desk.specs.Posts.{Posts}
use Rattle.calls.specs.steps.Change.{ChangeStep}
use Rattle.keeper.specs.declared.deeds.Deed.TheVariants.{Answered}
use Rattle.keeper.proofs.Doing.{done_to, kept_next}
use Rattle.keeper.proofs.lock.KeptDesk.answer.Goals as goal

pub invariant_of-self : goal.invariant_of-self
invariant_of-self g c =
    let after = c.change_on-reply.new.desk in
    kept_next g.T.Tables c.self.inside.desk after g.J.Naming.book g.J.KeeperName.starts (Answered c.args.asked.call c.args.asked.body.now (told c.change_on-reply.result)) c.args.place.now c.note_answered.new.self c.self.inside.log c.note_answered.new.log
    c.self.invariant (c.change_on-reply.ensures.step c.args.asked.call c.args.asked.body.now c.requires.asks) c.note_answered.ensures

pub returns-clause-step : goal.returns-clause-step
returns-clause-step g c =
    let asked = c.args.asked in
    subst (λ (d : Posts g.row.T.Denot). ChangeStep g.T.Tables d asked.call asked.body.now (told c.change_on-reply.result) c.change_on-reply.new.desk) c.self.view_is
    (c.change_on-reply.ensures.step asked.call asked.body.now c.requires.asks)

pub returns-clause-noted : goal.returns-clause-noted
returns-clause-noted g c =
    let after = c.change_on-reply.new.desk in
    done_to g.T.Tables c.self.inside.desk after g.J.Naming.book g.J.KeeperName.starts (Answered c.args.asked.call c.args.asked.body.now (told c.change_on-reply.result)) c.args.place.now c.note_answered.new.self c.self.inside.log c.note_answered.new.log c.args.self.now c.self.view_is
    c.self.invariant (c.change_on-reply.ensures.step c.args.asked.call c.args.asked.body.now c.requires.asks) c.note_answered.ensures

pub returns-clause-sound : goal.returns-clause-sound
returns-clause-sound g c =
    let seen = c.see.ensures in
    record { of_the_book = (invariant_of-self g c).0; beginning = seen.beginning; judged = seen.judged; agrees = seen.agrees; settled = seen.settled }

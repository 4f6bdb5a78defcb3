use Rattle.std.proofs.Common.{inl}
use Rattle.keeper.proofs.Ahead.{maybe_ahead}
use Rattle.keeper.proofs.Told.{asked_told}
use Rattle.keeper.proofs.questions.ask_again.Goals as goal

pub returns-in-Some-clause-told : goal.returns-in-Some-clause-told
returns-in-Some-clause-told g c =
    inl (asked_told c.ask.new.self.steps c.args.question.now c.in-Some.number c.in-Some.asked _
    c.in-Some.ensures.number c.in-Some.ensures.ok c.in-Some.ensures.err c.told_reply.ensures.ok c.told_reply.ensures.err (maybe_ahead c.in-Some.asked))

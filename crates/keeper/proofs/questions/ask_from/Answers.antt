use Rattle.std.proofs.Common.{inl, refl}
use Rattle.keeper.specs.Questions.{from_unasked, from_asked, from_shut}
use Rattle.keeper.proofs.Ahead.{never_ahead}
use Rattle.keeper.proofs.Told.{asked_told}
use Rattle.keeper.proofs.questions.ask_from.Goals as goal

pub returns-in-Err : goal.returns-in-Err
returns-in-Err g c = from_unasked c.in-Err.why c.in-Err.ensures.err c.refusal.ensures refl

pub returns-in-Some : goal.returns-in-Some
returns-in-Some g c =
    from_asked c.in-Ok.question c.in-Ok.ensures.ok
    (asked_told c.ask.new.self.steps c.in-Ok.question c.in-Some.number c.in-Some.asked _
    c.in-Some.ensures.number c.in-Some.ensures.ok c.in-Some.ensures.err c.told_reply.ensures.ok c.told_reply.ensures.err
    (never_ahead c.in-Some.asked c.is_of_the_future.result c.is_of_the_future.ensures.err c.if-is_of_the_future.false))
    (c.ask.ensures.later, c.ask.ensures.judged)

pub returns : goal.returns
returns g c = from_shut c.in-Ok.question c.in-Ok.ensures.ok c.refusal-in-None.ensures (inl c.in-None.ensures.none) (c.ask.ensures.later, c.ask.ensures.judged)

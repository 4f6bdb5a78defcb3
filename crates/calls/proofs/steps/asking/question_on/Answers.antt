use Rattle.calls.proofs.Answered.{asked_step}
use Rattle.calls.proofs.steps.asking.question_on.Goals as goal

pub returns-clause-step : goal.returns-clause-step
returns-clause-step g c call body asks =
    asked_step c.args.desk.now c.ask-asked.new.desk call body c.args.question.now c.number.result _ c.ask-asked.result c.number.ensures.posted c.ask-asked.ensures.shows
    asks c.ask-asked.ensures.ok c.ask-asked.ensures.err c.told_reply.ensures.ok c.told_reply.ensures.err

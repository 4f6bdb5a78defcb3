use Rattle.bodies.proofs.Refusing.{failed_condition, already_there, not_there}
use Rattle.bodies.proofs.refusals.refusal.Goals as goal

pub returns-in-ConditionFailed : goal.returns-in-ConditionFailed
returns-in-ConditionFailed c = failed_condition _ c.args.why.now c.in-ConditionFailed.index c.in-ConditionFailed.is c.indexed_refusal.ensures

pub returns-in-AlreadyThere : goal.returns-in-AlreadyThere
returns-in-AlreadyThere c = already_there _ c.args.why.now c.in-AlreadyThere.index c.in-AlreadyThere.is c.indexed_refusal-in-AlreadyThere.ensures

pub returns-in-NotThere : goal.returns-in-NotThere
returns-in-NotThere c = not_there _ c.args.why.now c.in-NotThere.index c.in-NotThere.is c.indexed_refusal-in-NotThere.ensures

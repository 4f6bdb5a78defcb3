use Rattle.std.specs.Prelude.{codes}
use Rattle.serde_json.specs.Find.{get}
use Rattle.serde_json.specs.View.{view}
use Rattle.bodies.specs.inside.Conditions.{MemberCause}
use Rattle.bodies.proofs.Causes.{exit}
use Rattle.bodies.proofs.AskedConditions.{asked_cause}
use Rattle.bodies.proofs.conditions.conditions_of.Goals as goal

pub returns-in_err-conditions-in-Some-clause-err : goal.returns-in_err-conditions-in-Some-clause-err
returns-in_err-conditions-in-Some-clause-err c =
    let at = get (codes "conditions") (view c.args.value.now) in
    exit (MemberCause at) c.from_residual.result c.in_err-conditions-in-Some.field-0.0 c.from_residual.ensures.1
    (asked_cause at (view c.in-Some.list.now) c.in-Some.ensures c.in_err-conditions-in-Some.field-0.0 c.in_err-conditions-in-Some.ensures.err)

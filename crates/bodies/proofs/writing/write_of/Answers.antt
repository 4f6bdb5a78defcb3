use Rattle.std.proofs.Common.{rules}
use Rattle.serde_json.specs.View.{view}
use Rattle.bodies.specs.inside.Conditions.{WriteCause}
use Rattle.bodies.proofs.Causes.{exit}
use Rattle.bodies.proofs.AskedWrites.{ops_unasked, conditions_unasked}
use Rattle.bodies.proofs.writing.write_of.Goals as goal

pub returns-in_err-ops-clause-err : goal.returns-in_err-ops-clause-err
returns-in_err-ops-clause-err c =
    exit (WriteCause (view c.args.value.now)) c.from_residual.result c.in_err-ops.field-0.0 c.from_residual.ensures.1 (ops_unasked _ c.in_err-ops.field-0.0 c.in_err-ops.ensures.err)

pub returns-in_err-conditions-clause-err : goal.returns-in_err-conditions-clause-err
returns-in_err-conditions-clause-err c =
    exit (WriteCause (view c.args.value.now)) c.from_residual-in_err-conditions.result c.in_err-conditions.field-0.0 c.from_residual-in_err-conditions.ensures.1
    (conditions_unasked (view c.args.value.now) (let e = c.has_only_members.ensures in let f = c.if-not-has_only_members.false in search rules) c.in_ok-ops.ops c.in_ok-ops.ensures.ok
    c.in_err-conditions.field-0.0 c.in_err-conditions.ensures.err)

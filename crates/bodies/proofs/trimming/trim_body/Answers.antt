use Rattle.bodies.specs.Trimming.{TrimBodyCause}
use Rattle.bodies.proofs.Causes.{exit}
use Rattle.bodies.proofs.Floors.{floor_unread, floor_unasked}
use Rattle.bodies.proofs.trimming.trim_body.Goals as goal

pub returns-in_err-value-clause-err : goal.returns-in_err-value-clause-err
returns-in_err-value-clause-err c =
    exit (TrimBodyCause c.args.body.now) c.from_residual.result c.in_err-value.field-0.0 c.from_residual.ensures.1
    (floor_unread c.args.body.now _ c.in_err-value.ensures.err)

pub returns-in_err-floor-clause-err : goal.returns-in_err-floor-clause-err
returns-in_err-floor-clause-err c =
    exit (TrimBodyCause c.args.body.now) c.from_residual-in_err-floor.result c.in_err-floor.field-0.0 c.from_residual-in_err-floor.ensures.1
    (floor_unasked c.args.body.now _ c.in_ok-value.ensures.ok _ c.in_err-floor.ensures.err)

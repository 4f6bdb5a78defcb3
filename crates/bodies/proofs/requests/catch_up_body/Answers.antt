use Rattle.names.proofs.Readings.{read_exit}
use Rattle.bodies.proofs.Asking.{catch_up_other}
use Rattle.bodies.proofs.requests.catch_up_body.Goals as goal

pub returns-in_err-asked-clause-err : goal.returns-in_err-asked-clause-err
returns-in_err-asked-clause-err c =
    read_exit c.from_residual-in_err-asked.result c.in_err-asked.field-0.0 c.from_residual-in_err-asked.ensures.1
    (catch_up_other c.args.body.now _ c.in_ok-value.ensures.ok) c.in_err-asked.ensures.err

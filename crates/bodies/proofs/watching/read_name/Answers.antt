use Rattle.names.proofs.Readings.{malformed_exit}
use Rattle.bodies.proofs.Naming.{no_name}
use Rattle.bodies.proofs.watching.read_name.Goals as goal

pub returns-in_err-name-clause-err : goal.returns-in_err-name-clause-err
returns-in_err-name-clause-err c = malformed_exit c.from_residual.result c.in_err-name.field-0.0 c.from_residual.ensures.1 (no_name _ c.in-Some.text.now c.in-Some.ensures) c.in_err-name.ensures.err

use Rattle.bodies.specs.Writing.{WriteBodyCause}
use Rattle.bodies.proofs.Causes.{exit}
use Rattle.bodies.proofs.AskedWrites.{write_unasked}
use Rattle.bodies.proofs.writing.write_body.Goals as goal

pub returns-in_err-write-clause-err : goal.returns-in_err-write-clause-err
returns-in_err-write-clause-err c =
    exit (WriteBodyCause c.args.body.now) c.from_residual-in_err-write.result c.in_err-write.field-0.0 c.from_residual-in_err-write.ensures.1
    (write_unasked c.args.body.now _ c.in_ok-value.ensures.ok c.in_err-write.field-0.0 c.in_err-write.ensures.err)

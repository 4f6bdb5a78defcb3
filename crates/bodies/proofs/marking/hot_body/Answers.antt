use Rattle.names.proofs.Readings.{read_part}
use Rattle.bodies.proofs.Marks.{hot_other}
use Rattle.bodies.proofs.marking.hot_body.Goals as goal

pub returns-in_err-marking-clause-err : goal.returns-in_err-marking-clause-err
returns-in_err-marking-clause-err c =
    read_part c.from_residual-in_err-marking.result c.in_err-marking.field-0.0 c.from_residual-in_err-marking.ensures.1
    (hot_other c.args.body.now _ c.in_ok-value.ensures.ok) c.in_err-marking.ensures.err

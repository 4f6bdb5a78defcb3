use Rattle.names.proofs.Readings.{read_exit}
use Rattle.bodies.proofs.watching.watch_of.Goals as goal

pub returns-in_err-namespaces-clause-err : goal.returns-in_err-namespaces-clause-err
returns-in_err-namespaces-clause-err c =
    read_exit c.from_residual.result c.in_err-namespaces.field-0.0 c.from_residual.ensures.1 (λ not cursor n commits w. not n w.named) c.in_err-namespaces.ensures.err

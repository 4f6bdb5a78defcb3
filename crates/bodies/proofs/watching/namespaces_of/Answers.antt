use Rattle.names.proofs.Readings.{read_exit}
use Rattle.bodies.proofs.Naming.{these_at, no_namespaces}
use Rattle.bodies.proofs.watching.namespaces_of.Goals as goal

pub returns-in_err-names-in-Some-clause-err : goal.returns-in_err-names-in-Some-clause-err
returns-in_err-names-in-Some-clause-err c =
    read_exit c.from_residual.result c.in_err-names-in-Some.field-0.0 c.from_residual.ensures.1 (no_namespaces _ _ c.in-Some.ensures) c.in_err-names-in-Some.ensures.err

pub returns-in_ok-names-in-Some-clause-ok : goal.returns-in_ok-names-in-Some-clause-ok
returns-in_ok-names-in-Some-clause-ok c = these_at _ _ c.in_ok-names-in-Some.names c.in-Some.ensures c.in_ok-names-in-Some.ensures.ok

use Rattle.names.proofs.Readings.{malformed_exit, type_uncut_refused, type_namespace_refused, type_relation_refused}
use Rattle.names.proofs.relation.SubjectType.parse.Goals as goal

pub returns-in_err-namespace-clause-err : goal.returns-in_err-namespace-clause-err
returns-in_err-namespace-clause-err c =
    malformed_exit c.from_residual.result c.in_err-namespace.field-0.0 c.from_residual.ensures.1
    (type_uncut_refused c.args.text.now c.in_default.ensures.cases) c.in_err-namespace.ensures.err

pub returns-in_err-namespace-2-clause-err : goal.returns-in_err-namespace-2-clause-err
returns-in_err-namespace-2-clause-err c =
    malformed_exit c.from_residual-in_err-namespace-2.result c.in_err-namespace-2.field-0.0 c.from_residual-in_err-namespace-2.ensures.1
    (type_namespace_refused c.args.text.now c.in-Some.namespace c.in-Some.relation c.in-Some.ensures.cases) c.in_err-namespace-2.ensures.err

pub returns-in_err-relation-clause-err : goal.returns-in_err-relation-clause-err
returns-in_err-relation-clause-err c =
    malformed_exit c.from_residual-in_err-relation.result c.in_err-relation.field-0.0 c.from_residual-in_err-relation.ensures.1
    (type_relation_refused c.args.text.now c.in-Some.namespace c.in-Some.relation c.in-Some.ensures.cases) c.in_err-relation.ensures.err

use Rattle.names.proofs.Readings.{malformed_exit, tuple_uncut, tuple_node_refused, tuple_subject_refused}
use Rattle.names.proofs.tuple.Tuple.parse.Goals as goal

pub returns-in_default-clause-err : goal.returns-in_default-clause-err
returns-in_default-clause-err c = tuple_uncut c.args.text.now c.in_default.ensures.cases

pub returns-in_err-node-clause-err : goal.returns-in_err-node-clause-err
returns-in_err-node-clause-err c =
    malformed_exit c.from_residual.result c.in_err-node.field-0.0 c.from_residual.ensures.1
    (tuple_node_refused c.args.text.now c.in-Some.node c.in-Some.subject c.in-Some.ensures.cases) c.in_err-node.ensures.err

pub returns-in_err-subject-clause-err : goal.returns-in_err-subject-clause-err
returns-in_err-subject-clause-err c =
    malformed_exit c.from_residual-in_err-subject.result c.in_err-subject.field-0.0 c.from_residual-in_err-subject.ensures.1
    (tuple_subject_refused c.args.text.now c.in-Some.node c.in-Some.subject c.in-Some.ensures.cases) c.in_err-subject.ensures.err

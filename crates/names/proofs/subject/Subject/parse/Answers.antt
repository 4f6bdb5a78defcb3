use Rattle.names.proofs.Readings.{malformed_exit, subject_uncut_refused, subject_object_refused, subject_relation_refused}
use Rattle.names.proofs.subject.Subject.parse.Goals as goal

pub returns-in_err-object-clause-err : goal.returns-in_err-object-clause-err
returns-in_err-object-clause-err c =
    malformed_exit c.from_residual.result c.in_err-object.field-0.0 c.from_residual.ensures.1
    (subject_uncut_refused c.args.text.now c.in_default.ensures.cases) c.in_err-object.ensures.err

pub returns-in_err-object-2-clause-err : goal.returns-in_err-object-2-clause-err
returns-in_err-object-2-clause-err c =
    malformed_exit c.from_residual-in_err-object-2.result c.in_err-object-2.field-0.0 c.from_residual-in_err-object-2.ensures.1
    (subject_object_refused c.args.text.now c.in-Some.object c.in-Some.relation c.in-Some.ensures.cases) c.in_err-object-2.ensures.err

pub returns-in_err-relation-clause-err : goal.returns-in_err-relation-clause-err
returns-in_err-relation-clause-err c =
    malformed_exit c.from_residual-in_err-relation.result c.in_err-relation.field-0.0 c.from_residual-in_err-relation.ensures.1
    (subject_relation_refused c.args.text.now c.in-Some.object c.in-Some.relation c.in-Some.ensures.cases) c.in_err-relation.ensures.err

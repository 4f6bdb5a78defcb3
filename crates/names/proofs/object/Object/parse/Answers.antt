use Rattle.std.proofs.Common.{◌∙◌}
use Rattle.std.proofs.lemmas.Result.{IfOk-weaker, IfErr-weaker}
use Rattle.names.proofs.Readings.{malformed_map, malformed_exit, object_uncut, object_namespace_refused, object_id_refused, object_spelled}
use Rattle.names.proofs.object.Object.parse.Goals as goal

pub returns-in_default-clause-err : goal.returns-in_default-clause-err
returns-in_default-clause-err c = object_uncut c.args.text.now c.in_default.ensures.cases

pub returns-in_err-namespace-clause-err : goal.returns-in_err-namespace-clause-err
returns-in_err-namespace-clause-err c =
    malformed_exit c.from_residual.result c.in_err-namespace.field-0.0 c.from_residual.ensures.1
    (object_namespace_refused c.args.text.now c.in-Some.namespace c.in-Some.id c.in-Some.ensures.cases) c.in_err-namespace.ensures.err

pub returns-clause-ok : goal.returns-clause-ok
returns-clause-ok c =
    let named = c.in_ok-namespace.ensures.ok in
    IfOk-weaker c.of.result _ _
    (λ o is. object_spelled c.args.text.now c.in-Some.namespace c.in-Some.id c.in-Some.ensures.cases named.1 o (is.0 ∙ named.0, is.1, is.2)) c.of.ensures.ok

pub returns-clause-err : goal.returns-clause-err
returns-clause-err c =
    IfErr-weaker c.of.result _ _
    (malformed_map (object_id_refused c.args.text.now c.in-Some.namespace c.in-Some.id c.in-Some.ensures.cases)) c.of.ensures.err

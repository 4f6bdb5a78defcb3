use Rattle.serde_json.specs.View.{view}
use Rattle.names.proofs.Readings.{malformed_exit}
use Rattle.bodies.proofs.Marks.{no_mark, no_unmark}
use Rattle.bodies.proofs.marking.marking_of.Goals as goal

pub returns-in_err-node-clause-err : goal.returns-in_err-node-clause-err
returns-in_err-node-clause-err c =
    malformed_exit c.from_residual.result c.in_err-node.field-0.0 c.from_residual.ensures.1
    (λ not. no_mark (view c.args.value.now) c.in-Some.text.now not c.in-Some.ensures) c.in_err-node.ensures.err

pub returns-in_err-node-2-clause-err : goal.returns-in_err-node-2-clause-err
returns-in_err-node-2-clause-err c =
    malformed_exit c.from_residual-in_err-node-2.result c.in_err-node-2.field-0.0 c.from_residual-in_err-node-2.ensures.1
    (λ not. no_unmark (view c.args.value.now) c.in-Some-only_text.text.now not c.in-Some-only_text.ensures) c.in_err-node-2.ensures.err

use Rattle.names.specs.declared.node.Node.{Node}
use Rattle.names.specs.declared.object.Object.{Object}
use Rattle.bodies.specs.Requests.{CheckCause, CheckOf}
use Rattle.bodies.proofs.Causes.{exit}
use Rattle.bodies.proofs.Questions.{question_unread, question_unasked, question_at}
use Rattle.bodies.proofs.requests.check_body.Goals as goal

pub returns-in_err-value-clause-err : goal.returns-in_err-value-clause-err
returns-in_err-value-clause-err c =
    exit (CheckCause c.args.body.now) c.from_residual.result c.in_err-value.field-0.0 c.from_residual.ensures.1
    (question_unread c.args.body.now (λ d. (node : Node) × (user : Object) × CheckOf d node user) _ c.in_err-value.ensures.err)

pub returns-in_err-node-clause-err : goal.returns-in_err-node-clause-err
returns-in_err-node-clause-err c =
    exit (CheckCause c.args.body.now) c.from_residual-in_err-node.result c.in_err-node.field-0.0 c.from_residual-in_err-node.ensures.1
    (question_unasked c.args.body.now (λ d. (node : Node) × (user : Object) × CheckOf d node user) _ c.in_ok-value.ensures.ok (λ not w. not w.0 w.1 w.2) _ c.in_err-node.ensures.err)

pub returns-in_err-consistency-clause-err : goal.returns-in_err-consistency-clause-err
returns-in_err-consistency-clause-err c =
    exit (CheckCause c.args.body.now) c.from_residual-in_err-consistency.result c.in_err-consistency.field-0.0 c.from_residual-in_err-consistency.ensures.1
    (question_at c.args.body.now (λ d. (node : Node) × (user : Object) × CheckOf d node user) _ c.in_ok-value.ensures.ok (_, _, c.in_ok-node.ensures.ok) _ c.in_err-consistency.ensures.err)

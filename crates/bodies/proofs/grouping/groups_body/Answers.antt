use Rattle.std.proofs.Common.{ℕ}
use Rattle.leopard.specs.Query.{Query}
use Rattle.bodies.specs.Grouping.{GroupsBodyCause, GroupsOf}
use Rattle.bodies.proofs.Causes.{exit}
use Rattle.bodies.proofs.Questions.{question_unread, question_unlike, question_at}
use Rattle.bodies.proofs.grouping.groups_body.Goals as goal

pub returns-in_err-value-clause-err : goal.returns-in_err-value-clause-err
returns-in_err-value-clause-err c =
    exit (GroupsBodyCause c.args.body.now) c.from_residual.result c.in_err-value.field-0.0 c.from_residual.ensures.1
    (question_unread c.args.body.now (λ d. (asked : Query) × (limit : ℕ) × GroupsOf d asked limit) _ c.in_err-value.ensures.err)

pub returns-in_err-expr-clause-err : goal.returns-in_err-expr-clause-err
returns-in_err-expr-clause-err c =
    exit (GroupsBodyCause c.args.body.now) c.from_residual-in_err-expr.result c.in_err-expr.field-0.0 c.from_residual-in_err-expr.ensures.1
    (question_unlike c.args.body.now (λ d. (asked : Query) × (limit : ℕ) × GroupsOf d asked limit) _ c.in_ok-value.ensures.ok (λ not w. not w.0 w.1 w.2) _ c.in_err-expr.ensures.err)

pub returns-in_err-consistency-clause-err : goal.returns-in_err-consistency-clause-err
returns-in_err-consistency-clause-err c =
    exit (GroupsBodyCause c.args.body.now) c.from_residual-in_err-consistency.result c.in_err-consistency.field-0.0 c.from_residual-in_err-consistency.ensures.1
    (question_at c.args.body.now (λ d. (asked : Query) × (limit : ℕ) × GroupsOf d asked limit) _ c.in_ok-value.ensures.ok (_, _, c.in_ok-expr.ensures.ok) _ c.in_err-consistency.ensures.err)

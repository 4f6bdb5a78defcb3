use Rattle.rows.specs.declared.tupleset.Tupleset.{Tupleset}
use Rattle.bodies.specs.Paging.{ReadBodyCause, ReadOf}
use Rattle.bodies.proofs.Causes.{exit}
use Rattle.bodies.proofs.Questions.{question_unread, question_unasked, question_at}
use Rattle.bodies.proofs.paging.read_body.Goals as goal

pub returns-in_err-value-clause-err : goal.returns-in_err-value-clause-err
returns-in_err-value-clause-err c =
    exit (ReadBodyCause c.args.body.now) c.from_residual.result c.in_err-value.field-0.0 c.from_residual.ensures.1
    (question_unread c.args.body.now (λ d. (asked : Tupleset) × ReadOf d asked) _ c.in_err-value.ensures.err)

pub returns-in_err-asked-clause-err : goal.returns-in_err-asked-clause-err
returns-in_err-asked-clause-err c =
    exit (ReadBodyCause c.args.body.now) c.from_residual-in_err-asked.result c.in_err-asked.field-0.0 c.from_residual-in_err-asked.ensures.1
    (question_unasked c.args.body.now (λ d. (asked : Tupleset) × ReadOf d asked) _ c.in_ok-value.ensures.ok (λ not w. not w.0 w.1) _ c.in_err-asked.ensures.err)

pub returns-in_err-consistency-clause-err : goal.returns-in_err-consistency-clause-err
returns-in_err-consistency-clause-err c =
    exit (ReadBodyCause c.args.body.now) c.from_residual-in_err-consistency.result c.in_err-consistency.field-0.0 c.from_residual-in_err-consistency.ensures.1
    (question_at c.args.body.now (λ d. (asked : Tupleset) × ReadOf d asked) _ c.in_ok-value.ensures.ok (_, c.in_ok-asked.ensures.ok) _ c.in_err-consistency.ensures.err)

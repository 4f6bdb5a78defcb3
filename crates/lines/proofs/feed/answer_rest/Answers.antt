use Rattle.std.proofs.Common.{sym, ◌∙◌}
use Rattle.lines.proofs.Going.{served_whole, served_last}
use Rattle.lines.proofs.feed.answer_rest.Goals as goal

pub returns-then-is_empty-clause-served : goal.returns-then-is_empty-clause-served
returns-then-is_empty-clause-served g c s held input h = served_whole _ s held input _ _ _ h (sym c.is_empty.ensures ∙ c.if-is_empty.true)

pub returns-clause-served : goal.returns-clause-served
returns-clause-served g c s held input h =
    let a = c.answer_line.ensures.answered in
    served_last _ c.answer_line.result s held input _ _ _ _ a.0 _ h (sym c.is_empty.ensures ∙ c.if-is_empty.false) a.1 a.2

use Rattle.lines.proofs.Going.{going_byte, going_line}
use Rattle.lines.proofs.feed.feed.Goals as goal

pub returns-then-b-eq10-clause-goes_on : goal.returns-then-b-eq10-clause-goes_on
returns-then-b-eq10-clause-goes_on g c s held input h =
    let a = c.answer_line-written.ensures.answered in
    rw c.if-b-eq10.true (going_line _ c.answer_line-written.result s held input _ _ _ _ a.0 _ _ h a.1 a.2 c.clear.ensures)

pub returns-clause-goes_on : goal.returns-clause-goes_on
returns-clause-goes_on g c s held input h = going_byte _ s held input _ _ _ c.args.b _ h c.if-b-eq10.false c.push.ensures

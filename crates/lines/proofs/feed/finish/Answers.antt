use Rattle.lines.proofs.Going.{served_flushed}
use Rattle.lines.proofs.feed.finish.Goals as goal

pub returns-clause-served : goal.returns-clause-served
returns-clause-served g c s held input h = served_flushed g.A.Answers.step c.flush.result s held input c.answer_rest.new.answers _ _ (c.in_ok-answer_rest.ensures.served s held input h) c.flush.ensures.taken

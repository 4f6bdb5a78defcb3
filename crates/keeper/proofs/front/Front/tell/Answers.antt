use Rattle.std.proofs.Common.{sym, ◌∙◌}
use Rattle.keeper.proofs.front.Front.tell.Goals as goal

pub returns-then-is_change : goal.returns-then-is_change
returns-then-is_change g c = rw (sym c.is_change.ensures ∙ c.if-is_change.true) c.answer_change.ensures

pub returns-else-is_change : goal.returns-else-is_change
returns-else-is_change g c = rw (sym c.is_change.ensures ∙ c.if-is_change.false) c.answer_question.ensures

use Rattle.idsets.proofs.Placing.{is_there, is_absent}
use Rattle.idsets.proofs.place.is_at.Goals as goal

pub returns-then-at-ids-clause-is : goal.returns-then-at-ids-clause-is
returns-then-at-ids-clause-is c = is_there _ _ _ c.requires.ascending c.requires.place c.if-at-ids.true

pub returns-else-at-ids-clause-is : goal.returns-else-at-ids-clause-is
returns-else-at-ids-clause-is c = is_absent _ _ _ c.requires.ascending c.requires.place c.if-at-ids.false

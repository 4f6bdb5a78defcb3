use Rattle.by_subject.proofs.Pages.{has_it}
use Rattle.by_subject.proofs.reading.has_id.Goals as goal

pub returns-in-Some : goal.returns-in-Some
returns-in-Some c = has_it c.args.asked.now c.in-Some.asked c.args.id.now c.eq.result c.in-Some.is c.eq.ensures

use Rattle.refinement.proofs.Calls.{opens}
use Rattle.refinement.proofs.law.openings_are_events.Goals as goal

pub returns : goal.returns
returns g c = λ tables first began. opens g.T.Tables tables first began

use Rattle.refinement.proofs.Calls.{by_call}
use Rattle.refinement.proofs.law.calls_are_events.Goals as goal

pub returns : goal.returns
returns g c = λ old new call body told are is. by_call g.T.Tables old are new call body told is

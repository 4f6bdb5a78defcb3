use Rattle.calls.proofs.Failing.{stays_failed}
use Rattle.calls.proofs.law.failed_desks_make_no_change.Goals as goal

pub returns : goal.returns
returns g c = λ old new call body told fails is step. stays_failed g.T.Tables old new fails call body told is step

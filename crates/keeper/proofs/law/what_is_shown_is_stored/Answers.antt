use Rattle.keeper.proofs.Shown.{shows_stored}
use Rattle.keeper.proofs.law.what_is_shown_is_stored.Goals as goal

pub returns : goal.returns
returns g c = λ book desk kept. shows_stored g.T.Tables book desk kept

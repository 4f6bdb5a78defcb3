use Rattle.published.proofs.Rules.{enters}
use Rattle.published.proofs.session.copy.Goals as goal

pub enter_as-requires : goal.enter_as-requires
enter_as-requires g c = enters _ _

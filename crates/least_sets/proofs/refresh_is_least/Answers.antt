use Rattle.least_sets.proofs.Laws.{refresh}
use Rattle.least_sets.proofs.refresh_is_least.Goals as goal

pub returns : goal.returns
returns c = refresh

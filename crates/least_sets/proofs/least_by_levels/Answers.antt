use Rattle.least_sets.proofs.Laws.{by_levels}
use Rattle.least_sets.proofs.least_by_levels.Goals as goal

pub returns : goal.returns
returns c = by_levels

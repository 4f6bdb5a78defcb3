use Rattle.least_sets.proofs.Laws.{within}
use Rattle.least_sets.proofs.least_is_least_within.Goals as goal

pub returns : goal.returns
returns c = within

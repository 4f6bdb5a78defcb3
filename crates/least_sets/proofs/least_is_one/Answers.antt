use Rattle.least_sets.proofs.Laws.{one}
use Rattle.least_sets.proofs.least_is_one.Goals as goal

pub returns : goal.returns
returns c = one

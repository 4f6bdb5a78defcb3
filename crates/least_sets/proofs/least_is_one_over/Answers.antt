use Rattle.least_sets.proofs.Laws.{one_over}
use Rattle.least_sets.proofs.least_is_one_over.Goals as goal

pub returns : goal.returns
returns c = one_over

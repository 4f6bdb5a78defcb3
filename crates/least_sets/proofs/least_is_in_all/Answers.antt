use Rattle.least_sets.proofs.Laws.{in_all}
use Rattle.least_sets.proofs.least_is_in_all.Goals as goal

pub returns : goal.returns
returns c = in_all

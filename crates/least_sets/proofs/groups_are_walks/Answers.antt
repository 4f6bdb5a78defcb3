use Rattle.least_sets.proofs.GroupLemmas.{walks}
use Rattle.least_sets.proofs.groups_are_walks.Goals as goal

pub returns : goal.returns
returns c = walks

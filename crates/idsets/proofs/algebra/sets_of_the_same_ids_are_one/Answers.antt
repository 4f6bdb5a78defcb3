use Rattle.idsets.proofs.Sameness.{one_list}
use Rattle.idsets.proofs.algebra.sets_of_the_same_ids_are_one.Goals as goal

pub returns : goal.returns
returns c = one_list

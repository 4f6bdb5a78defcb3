use Rattle.strata.proofs.Ways.{none_back_all}
use Rattle.strata.proofs.cycle.first_cycle.Goals as goal

use Rattle.strata.proofs.Spreads.{not_past}
use Rattle.strata.proofs.cycle.place_of.Goals as goal

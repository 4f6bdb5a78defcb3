use Rattle.graphs.proofs.Closures.{closure}
use Rattle.graphs.proofs.least_is_closure.Goals as goal

pub returns : goal.returns
returns c = closure

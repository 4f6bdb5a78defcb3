use Rattle.std.proofs.Common.{◌^◌, arith}
use Rattle.least_sets.proofs.Found.{has_small}
use Rattle.region.proofs.found.are_small.Goals as goal

pub returns : goal.returns
returns c = has_small c.args._ids.now (2 ^ 64) (λ i. let fits = c.type_inv._ids i in omega arith)

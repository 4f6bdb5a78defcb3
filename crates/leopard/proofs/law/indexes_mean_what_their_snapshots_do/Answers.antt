use Rattle.leopard.proofs.Indices.{means_by}
use Rattle.leopard.proofs.law.indexes_mean_what_their_snapshots_do.Goals as goal

pub returns : goal.returns
returns c S x q is indexed n = means_by S x is q indexed n

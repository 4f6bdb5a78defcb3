use Rattle.std.proofs.Common.{subst}
use Rattle.idsets.specs.Naming.{AreDistinct}
use Rattle.leopard.proofs.Ordered.{ordered_distinct}
use Rattle.leopard.proofs.sorted.Sorted.len.Goals as goal

pub returns-clause-distinct : goal.returns-clause-distinct
returns-clause-distinct g c = subst AreDistinct c.self.view_is (ordered_distinct g.N.Ord.cmp g.met.N.Ord.total _ c.self.invariant)

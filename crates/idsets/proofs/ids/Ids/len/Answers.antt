use Rattle.std.proofs.Common.{subst}
use Rattle.idsets.specs.Naming.{AreDistinct}
use Rattle.idsets.proofs.Positions.{one_place}
use Rattle.idsets.proofs.ids.Ids.len.Goals as goal

pub returns-clause-distinct : goal.returns-clause-distinct
returns-clause-distinct g c = subst AreDistinct c.self.view_is (one_place g.N.PartialEq.eq g.met.N.Eq.laws.refl _ c.len.ensures.unique)

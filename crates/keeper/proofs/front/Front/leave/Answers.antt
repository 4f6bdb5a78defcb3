use Rattle.std.proofs.Common.{ap}
use Rattle.keeper.specs.Fronts.{FrontState}
use Rattle.keeper.proofs.front.Front.leave.Goals as goal

pub returns : goal.returns
returns g c = ap (λ (s : FrontState). s.hand) c.self.view_is

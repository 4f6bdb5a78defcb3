use Rattle.std.proofs.Common.{subst}
use Rattle.leopard.specs.Index.{Index}
use Rattle.leopard.specs.Build.{IsBuiltOf}
use Rattle.leopard.proofs.built.Built.input.Goals as goal

pub returns : goal.returns
returns c = subst (λ (x : Index). IsBuiltOf c.self.inside.input x.rev x) c.self.view_is c.self.invariant

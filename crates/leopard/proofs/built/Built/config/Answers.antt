use Rattle.std.proofs.Common.{ap, ◌∙◌}
use Rattle.leopard.specs.Index.{Index}
use Rattle.leopard.proofs.built.Built.config.Goals as goal

pub returns : goal.returns
returns c = c.config.ensures.config ∙ ap (λ (x : Index). x.config) c.self.view_is

use Rattle.std.proofs.Common.{ap, ◌∙◌}
use Rattle.published.specs.Copies.{Copy}
use Rattle.published.proofs.publication.Publication.shown.Goals as goal

pub returns : goal.returns
returns g c = rw (← c.self.view_is) (c.shown.ensures ∙ ap (λ (x : Copy). x.shown) c.published.ensures ∙ c.self.invariant.leads.stands.0)

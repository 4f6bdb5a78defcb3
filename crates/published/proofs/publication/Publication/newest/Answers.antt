use Rattle.std.proofs.Common.{ap, ◌∙◌}
use Rattle.shown.specs.Standing.{Standing}
use Rattle.rows.specs.Retained.{newest}
use Rattle.published.proofs.publication.Publication.newest.Goals as goal

pub returns : goal.returns
returns g c = c.newest.ensures.newest ∙ ap (λ (s : Standing). newest s.kept) c.shown.ensures

use Rattle.std.proofs.Common.{◌∙◌, sym}
use Rattle.published.proofs.Opening.{keeps_first}
use Rattle.published.proofs.publication.two_copies.Goals as goal

pub new-requires-clause-alike : goal.new-requires-clause-alike
new-requires-clause-alike g c = c.in_ok-one.ensures.copy ∙ sym c.in_ok-other.ensures.copy

pub new-requires-clause-rule : goal.new-requires-clause-rule
new-requires-clause-rule g c = keeps_first c.in_ok-one.one c.in_ok-one.ensures.stands

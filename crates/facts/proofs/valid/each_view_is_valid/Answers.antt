use Rattle.facts.proofs.Once.{valid_view}
use Rattle.facts.proofs.valid.each_view_is_valid.Goals as goal

pub returns : goal.returns
returns c = valid_view c.args.view.now c.config.result.now c.config.ensures.config c.relations-relations.ensures.valid c.relations-relations.ensures.ordered c.config.ensures.admitted

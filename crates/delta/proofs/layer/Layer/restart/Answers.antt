use Rattle.std.proofs.Common.{◌∙◌}
use Rattle.delta.proofs.layer.Layer.restart.Goals as goal

pub begun-requires-clause-config : goal.begun-requires-clause-config
begun-requires-clause-config c = c.config.ensures.config

pub begun-requires-clause-tuples : goal.begun-requires-clause-tuples
begun-requires-clause-tuples c = c.deref.ensures.value ∙ c.in_ok-tuples.ensures

pub returns-clause-layer : goal.returns-clause-layer
returns-clause-layer c = c.begun.ensures.layer

use Rattle.delta.proofs.layer.Layer.of.Goals as goal

pub begun-requires-clause-config : goal.begun-requires-clause-config
begun-requires-clause-config c = c.config.ensures.config

pub begun-requires-clause-tuples : goal.begun-requires-clause-tuples
begun-requires-clause-tuples c = c.tuples.ensures.tuples

pub returns-clause-layer : goal.returns-clause-layer
returns-clause-layer c = c.begun.ensures.layer

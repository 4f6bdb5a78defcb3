use Rattle.delta.proofs.layer.Layer.rebase.Goals as goal

pub returns-clause-layer : goal.returns-clause-layer
returns-clause-layer c = λ snaps is up there. c.raise.ensures.layer snaps is up

pub returns-then-self-rev-clause-layer : goal.returns-then-self-rev-clause-layer
returns-then-self-rev-clause-layer c = λ snaps is up there. c.in_ok-self.ensures.layer snaps there

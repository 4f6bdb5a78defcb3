use Rattle.direct.proofs.direct.Direct.rebase.Goals as goal

pub returns-then-self-rev-clause-direct : goal.returns-then-self-rev-clause-direct
returns-then-self-rev-clause-direct c = λ snaps is above at. c.in_ok-self.ensures.direct snaps at

pub returns-clause-direct : goal.returns-clause-direct
returns-clause-direct c = λ snaps is above at. c.raise.ensures.direct snaps is above

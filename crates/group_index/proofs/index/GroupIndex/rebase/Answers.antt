use Rattle.group_index.proofs.index.GroupIndex.rebase.Goals as goal

pub returns-then-cursor-rev-clause-index : goal.returns-then-cursor-rev-clause-index
returns-then-cursor-rev-clause-index c = λ snaps is above at. c.in_ok-self.ensures.index snaps at

pub returns-clause-index : goal.returns-clause-index
returns-clause-index c = λ snaps is above at. c.raise.ensures.index snaps is above

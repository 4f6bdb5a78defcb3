use Rattle.by_subject.proofs.by_subject.BySubject.forget_commit.Goals as goal

pub loop-i-init : goal.loop-i-init
loop-i-init c = λ t of has. has

pub loop-i-preserved : goal.loop-i-preserved
loop-i-preserved c = λ t of has. c.forget_event.ensures t of (c.loop-i.invariant t of has)

pub returns-after-loop-i : goal.returns-after-loop-i
returns-after-loop-i c = c.loop-i.invariant

use Rattle.by_subject.proofs.Origins.{after_trimming}
use Rattle.by_subject.proofs.by_subject.BySubject.forget_below.Goals as goal

pub loop-i-init : goal.loop-i-init
loop-i-init c = λ t of has. has

pub loop-i-preserved : goal.loop-i-preserved
loop-i-preserved c = λ t of has. c.forget_commit.ensures t of (c.loop-i.invariant t of has)

pub returns : goal.returns
returns c = λ complete t of. c.loop-i.invariant t of (after_trimming c.args.rows.now c.args.self.now c.args.floor complete t of)

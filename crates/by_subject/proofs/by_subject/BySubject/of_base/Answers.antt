use Rattle.by_subject.proofs.Putting.{covers_none, covers_more}
use Rattle.by_subject.proofs.by_subject.BySubject.of_base.Goals as goal

pub loop-i-init : goal.loop-i-init
loop-i-init c = covers_none _

pub loop-i-preserved : goal.loop-i-preserved
loop-i-preserved c =
    covers_more c.loop-i.found c.note.new.self c.args.tuples.now c.loop-i.i c.index-tuples-i.result c.loop-i-test.true c.index-tuples-i.is c.in_ok-note.ensures.ok c.loop-i.invariant

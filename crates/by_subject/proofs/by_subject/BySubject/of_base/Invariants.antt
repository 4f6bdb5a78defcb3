use Rattle.std.proofs.Common.{take}
use Rattle.meaning.specs.TupleSet as set
use Rattle.by_subject.specs.Complete.{Covers}
use Rattle.by_subject.proofs.by_subject.BySubject.of_base.Given as goal

abbrev pub invariant-loop-i : goal.invariant-loop-i
invariant-loop-i l = Covers l.found (set.from_list (take l.i l.tuples))

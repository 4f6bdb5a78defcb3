use Rattle.rows.specs.Loads.{loaded_to}
use Rattle.by_subject.specs.Complete.{IsCompleteFor}
use Rattle.by_subject.proofs.by_subject.BySubject.of.Given as goal

abbrev pub invariant-loop-i : goal.invariant-loop-i
invariant-loop-i l = IsCompleteFor (loaded_to l.loaded l.i) l.found

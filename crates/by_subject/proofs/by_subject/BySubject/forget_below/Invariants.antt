use Rattle.rows.specs.Retained.{after_trim}
use Rattle.by_subject.specs.inside.Putting.{KeepsOf}
use Rattle.by_subject.proofs.by_subject.BySubject.forget_below.Given as goal

abbrev pub invariant-loop-i : goal.invariant-loop-i
invariant-loop-i l = KeepsOf (after_trim l.rows l.floor) l.fn.self l.self

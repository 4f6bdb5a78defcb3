use Rattle.std.proofs.Common.{take}
use Rattle.by_subject.specs.inside.Putting.{HasPuts, Keeps}
use Rattle.by_subject.proofs.by_subject.BySubject.take_events.Given as goal

-- those that the first events put were taken, and what was there is there
abbrev pub invariant-loop-i : goal.invariant-loop-i
invariant-loop-i l = record {
  taken : HasPuts (take l.i l.events) l.self;
  kept : Keeps l.fn.self l.self;
}

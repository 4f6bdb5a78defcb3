use Rattle.versions.proofs.Ranging.{IsLeft}
use Rattle.versions.proofs.tuples.first_standing.Given as goal

abbrev pub invariant-loop-text : goal.invariant-loop-text
invariant-loop-text l = IsLeft l.start l.rev l.fn.walk l.walk

use Rattle.std.proofs.Common.{◌-◌, ◌^◌}
use Rattle.region.proofs.Walked.{WalkAt}
use Rattle.region.proofs.gathering.walk.Given as goal

abbrev pub invariant-loop-at : goal.invariant-loop-at
invariant-loop-at g l = record {
  later : g.F.Facts.later l.initial.facts l.facts;
  so_far : WalkAt (g.F.Facts.tells l.facts) l.old.rows l.touched l.roots l.turned (g.F.Facts.asked l.initial.facts) l.at l.found l.told.items (g.F.Facts.asked l.facts);
}

abbrev pub decreases-loop-at : goal.decreases-loop-at
decreases-loop-at g l = 2 ^ 64 - l.at

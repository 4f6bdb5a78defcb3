use Rattle.std.proofs.Common.{◌-◌, ◌^◌}
use Rattle.region.specs.Tables.{arc_in}
use Rattle.least_sets.proofs.Found.{SearchAt}
use Rattle.region.proofs.touched.touched.Given as goal

abbrev pub invariant-loop-at : goal.invariant-loop-at
invariant-loop-at l = SearchAt (λ a b. arc_in l.old.rows b a) l.changed l.at l.found

abbrev pub decreases-loop-at : goal.decreases-loop-at
decreases-loop-at l = 2 ^ 64 - l.at

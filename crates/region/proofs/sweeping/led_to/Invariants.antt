use Rattle.std.proofs.Common.{◌-◌, ◌^◌}
use Rattle.region.specs.Tables.{arc_in}
use Rattle.least_sets.proofs.Found.{SearchAt}
use Rattle.region.proofs.sweeping.led_to.Given as goal

abbrev pub invariant-loop-at : goal.invariant-loop-at
invariant-loop-at l = SearchAt (arc_in l.old.rows) l.fn.starts l.at l.found

abbrev pub decreases-loop-at : goal.decreases-loop-at
decreases-loop-at l = 2 ^ 64 - l.at

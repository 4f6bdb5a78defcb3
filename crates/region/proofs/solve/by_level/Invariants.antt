use Rattle.region.specs.Tables.{listed}
use Rattle.region.specs.Steps.{AreGrouped}
use Rattle.region.proofs.solve.by_level.Given as goal

abbrev pub invariant-loop-i : goal.invariant-loop-i
invariant-loop-i l = AreGrouped l.i l.told (listed l.groups)

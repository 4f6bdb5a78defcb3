use Rattle.region.specs.Tables.{listed}
use Rattle.region.specs.Steps.{AreNamed}
use Rattle.region.proofs.solve.named_from.Given as goal

abbrev pub invariant-loop-i : goal.invariant-loop-i
invariant-loop-i l = AreNamed l.i l.told (listed l.back)

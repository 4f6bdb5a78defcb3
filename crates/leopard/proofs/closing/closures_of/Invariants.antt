use Rattle.leopard.specs.inside.Closing.{AreWalkSetsTo}
use Rattle.leopard.proofs.closing.closures_of.Given as goal

abbrev pub invariant-loop-at : goal.invariant-loop-at
invariant-loop-at l = AreWalkSetsTo l.arcs l.at l.sets.items

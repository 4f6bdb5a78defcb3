use Rattle.leopard.specs.inside.Asking.{IsUnderWay}
use Rattle.leopard.proofs.walk.reached.Given as goal

abbrev pub invariant-loop : goal.invariant-loop
invariant-loop g l = IsUnderWay (g.A.Arcs.snap l.arcs) l.group l.seen.keys l.left.items

use Rattle.leopard.proofs.Making.{IsIdRound}
use Rattle.leopard.proofs.closing.walk_set.Given as goal

abbrev pub invariant-loop : goal.invariant-loop
invariant-loop l = IsIdRound l.arcs l.from l.all l.fresh

use Rattle.std.proofs.Common.{ℕ, List, subst}
use Rattle.leopard.specs.inside.Closing.{AreWalkSets}
use Rattle.leopard.proofs.built.Built.build.Goals as goal

pub assembled-requires-clause-walks : goal.assembled-requires-clause-walks
assembled-requires-clause-walks c = subst (λ (l : List (List ℕ)). AreWalkSets l c.in_ok-closures.closures.items) c.deref.ensures.value c.in_ok-closures.ensures

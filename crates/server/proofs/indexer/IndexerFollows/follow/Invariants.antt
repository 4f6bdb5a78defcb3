use Rattle.std.specs.Prelude.{ℕ}
use Rattle.published.specs.Known.{Begins}
use Rattle.server.specs.Turning.{TurnByTurn}
use Rattle.server.proofs.indexer.IndexerFollows.follow.Given as goal

abbrev pub invariant-loop : goal.invariant-loop
invariant-loop g l =
    (goal.iterator-loop g).can_next l.iterator' × (goal.iterator-loop g).is_finite l.iterator' × Begins l.initial.self.known l.self.known
    × ((turns : ℕ) × TurnByTurn g.T.Tables g.J.Naming.book g.J.KeeperName.starts l.initial.self.hand turns l.self.hand)

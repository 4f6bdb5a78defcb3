use Rattle.published.proofs.Rules.{begins_trans}
use Rattle.server.proofs.Turning.{turns_on}
use Rattle.server.proofs.indexer.IndexerFollows.follow.Goals as goal

pub returns-then-not-goes_on : goal.returns-then-not-goes_on
returns-then-not-goes_on g c =
    let before = c.loop.invariant in
    let turned = c.takes_turn.ensures in (
      begins_trans c.args.self.now.known c.loop.self.known c.takes_turn.new.self.known before.2 turned.known,
      turns_on g.T.Tables g.J.Naming.book g.J.KeeperName.starts c.args.self.now.hand c.loop.self.hand c.takes_turn.new.self.hand before.3 turned.turn,
    )

pub loop-preserved : goal.loop-preserved
loop-preserved g c =
    let before = c.loop.invariant in
    let turned = c.takes_turn.ensures in (
      tt,
      tt,
      begins_trans c.args.self.now.known c.loop.self.known c.takes_turn.new.self.known before.2 turned.known,
      turns_on g.T.Tables g.J.Naming.book g.J.KeeperName.starts c.args.self.now.hand c.loop.self.hand c.takes_turn.new.self.hand before.3 turned.turn,
    )

use Rattle.keeper.proofs.Changed.{step_of}
use Rattle.keeper.proofs.front.Front.answer.Goals as goal

pub returns : goal.returns
returns g c = step_of g.T.Tables g.J.Naming.book g.J.KeeperName.starts c.args.self.now c.args.call c.args.body.now _ c.tell.new.self c.see.ensures c.tell.ensures

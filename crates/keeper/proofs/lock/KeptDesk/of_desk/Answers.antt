use Rattle.keeper.proofs.Doing.{left_first}
use Rattle.keeper.proofs.lock.KeptDesk.of_desk.Goals as goal

pub invariant_of-result : goal.invariant_of-result
invariant_of-result g c = (c.requires.of_book, left_first g.T.Tables g.J.KeeperName.starts c.args.desk c.args.log c.requires.log c.requires.starts)

use Rattle.keeper.proofs.Doing.{kept_by}
use Rattle.keeper.proofs.lock.KeptDesk.look.Goals as goal

pub invariant_of-self : goal.invariant_of-self
invariant_of-self g c =
    kept_by g.T.Tables g.J.Naming.book g.J.KeeperName.starts c.self.inside.desk c.self.inside.log c.look_last.new.log c.look_last.ensures.same c.self.invariant

pub returns-clause-told : goal.returns-clause-told
returns-clause-told g c = (c.self.inside.log, c.self.invariant.1, c.look_last.ensures.stand)

use Rattle.keeper.proofs.Changed.{seated_of}
use Rattle.keeper.proofs.lock.Keeper.session.Goals as goal

pub returns-clause-seated : goal.returns-clause-seated
returns-clause-seated g c =
    let given = c.session.ensures in
    seated_of g.T.Tables g.J.Naming.book g.J.KeeperName.starts (λ a. a.0) (λ a. a.1) c.session.result c.deref_mut.result.now c.session.new.self given.noted given.known given.sound

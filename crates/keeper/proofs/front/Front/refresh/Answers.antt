use Rattle.std.proofs.Common.{subst}
use Rattle.keeper.specs.Fronts.{FrontState, ToldByDesk}
use Rattle.keeper.proofs.front.Front.refresh.Goals as goal

pub returns-clause-tells : goal.returns-clause-tells
returns-clause-tells g c =
    let held = c.refresh.ensures in
    subst (λ (s : FrontState). ToldByDesk g.T.Tables g.J.Naming.book g.J.KeeperName.starts c.refresh.result s (record { known = c.refresh.new.session; hand = c.refresh.new.place })) c.self.view_is
    (record {
      sought = record { before = c.deref_mut.result.now; after = c.refresh.new.self; kept = held.sound; done = held.noted; known = held.known };
      tells = held.tells;
    })

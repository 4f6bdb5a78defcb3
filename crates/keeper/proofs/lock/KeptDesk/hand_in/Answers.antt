use Rattle.std.proofs.Common.{subst, sym}
use Rattle.desk.specs.Posts.{Posts}
use Rattle.keeper.specs.Deeds.{IsLeft}
use Rattle.keeper.specs.Kept.{IsOfBook}
use Rattle.keeper.proofs.lock.KeptDesk.hand_in.Goals as goal

pub invariant_of-self : goal.invariant_of-self
invariant_of-self g c =
    subst (λ (d : Posts g.row.T.Denot). IsOfBook g.J.Naming.book d × IsLeft g.T.Tables g.J.KeeperName.starts c.self.inside.log d) (sym c.hand_in.ensures) c.self.invariant

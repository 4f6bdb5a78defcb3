use Rattle.std.proofs.Common.{subst}
use Rattle.desk.specs.Posts.{Posts}
use Rattle.keeper.specs.Deeds.{IsLeft}
use Rattle.keeper.specs.Kept.{IsKept}
use Rattle.keeper.proofs.lock.KeptDesk.see.Goals as goal

pub returns-clause-kept : goal.returns-clause-kept
returns-clause-kept g c =
    let seen = c.see.ensures in
    subst (λ (d : Posts g.row.T.Denot). IsKept g.T.Tables g.J.Naming.book d) c.self.view_is
    (record { of_the_book = c.self.invariant.0; beginning = seen.beginning; judged = seen.judged; agrees = seen.agrees; settled = seen.settled })

pub returns-clause-left : goal.returns-clause-left
returns-clause-left g c =
    (c.self.inside.log, subst (λ (d : Posts g.row.T.Denot). IsLeft g.T.Tables g.J.KeeperName.starts c.self.inside.log d) c.self.view_is c.self.invariant.1)

use Rattle.std.proofs.Common.{List, subst}
use Rattle.desk.specs.Posts.{Posts}
use Rattle.one_history.specs.declared.entry.Entry.{Entry}
use Rattle.keeper.specs.declared.deeds.Deed.{Deed}
use Rattle.keeper.specs.Deeds.{IsLeft}
use Rattle.keeper.proofs.lock.Keeper.hold_with.Goals as goal

pub returns-clause-left : goal.returns-clause-left
returns-clause-left g c =
    subst (λ (d : Posts g.row.T.Denot). (deeds : List (Entry Deed)) × IsLeft g.T.Tables g.J.KeeperName.starts deeds d) c.deref.ensures c.see.ensures.left

use Rattle.std.proofs.Common.{ap, subst}
use Rattle.shown.specs.Standing.{standing}
use Rattle.desk.specs.Posts.{Posts, IsSettled}
use Rattle.desk.proofs.desk.Desk.see.Goals as goal

pub returns-clause-settled : goal.returns-clause-settled
returns-clause-settled g c =
    let inside = c.self.inside in
    let seen = c.self.view_is in
    subst (IsSettled g.T.Tables) seen
    (λ works opened. g.met.T.Tables.settled inside.tables.tables (standing inside.publication.posted).kept (c.self.invariant.agrees.holds works) opened)

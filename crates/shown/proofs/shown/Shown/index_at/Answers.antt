use Rattle.shown.proofs.Basing.{told}
use Rattle.shown.proofs.shown.Shown.index_at.Goals as goal

pub returns-in-Some : goal.returns-in-Some
returns-in-Some c = told _ c.args.self.now c.self.inside.groups c.in-Some.index c.at.result c.args.rev c.self.view_is c.in-Some.is c.self.invariant.0.index_right c.at.ensures.told

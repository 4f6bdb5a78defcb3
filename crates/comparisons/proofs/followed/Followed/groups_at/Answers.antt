use Rattle.comparisons.proofs.Moving.{told}
use Rattle.comparisons.proofs.followed.Followed.groups_at.Goals as goal

pub returns-in-Some : goal.returns-in-Some
returns-in-Some c =
    let inside = c.self.inside in
    told inside.rows c.args.self.now inside.groups c.in-Some.index c.at.result c.args.rev c.self.view_is c.in-Some.is c.self.invariant.groups_right c.at.ensures.told

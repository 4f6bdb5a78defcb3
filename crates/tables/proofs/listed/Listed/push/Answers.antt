use Rattle.tables.proofs.Storing.{pushed_listed}
use Rattle.tables.proofs.listed.Listed.push.Goals as goal

pub invariant_of-self-2 : goal.invariant_of-self-2
invariant_of-self-2 c =
    pushed_listed c.self.inside.number c.self.inside.base c.args.self.now c.self.inside.commits.items c.reserve.new.self.items c.push_reserved.new.self.items c.in-Ok.commit c.args.commit.now c.self.view_is
    c.self.invariant c.requires c.what_follows_has_room.ensures c.reserve.ensures.items c.in-Ok.ensures c.push_reserved.ensures.items

use Rattle.rows.proofs.Admission.{room_unless_refused}
use Rattle.comparisons.proofs.followed.Followed.add.Goals as goal

pub commit-requires : goal.commit-requires
commit-requires c =
    room_unless_refused c.self.inside.rows c.args.commit.now c.in_ok-refuses.field-0 c.admits_its_tuples.ensures.newest c.in_ok-refuses.ensures c.if-branch.false

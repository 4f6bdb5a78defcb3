use Rattle.rows.proofs.Admission.{room_unless_refused}
use Rattle.facts_tests.proofs.groups.is_committed.Goals as goal

pub commit-requires : goal.commit-requires
commit-requires c = room_unless_refused c.args.rows.now c.args.commit.now c.in_ok-refuses.field-0 c.admits_its_tuples.ensures.newest c.in_ok-refuses.ensures c.if-branch.false

use Rattle.leopard.proofs.Meeting.{meet_where_member}
use Rattle.leopard.proofs.law.closures_meet_where_members.Goals as goal

pub returns : goal.returns
returns c = meet_where_member

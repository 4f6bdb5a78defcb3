use Rattle.rows.proofs.Admission.{has_room}
use Rattle.rows.proofs.law.what_follows_has_room.Goals as goal

pub returns : goal.returns
returns c = has_room

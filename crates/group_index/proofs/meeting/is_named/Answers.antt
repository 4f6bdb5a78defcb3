use Rattle.std.proofs.Common.{sym}
use Rattle.group_index.proofs.Among.{known_here, known_nowhere}
use Rattle.group_index.proofs.meeting.is_named.Goals as goal

pub returns-in-Some : goal.returns-in-Some
returns-in-Some c = known_here c.args.names.now c.args.other_names.now c.args.other_ids.now c.args.id c.in-Some.node.now c.is_among.result (sym c.in-Some.ensures) c.is_among.ensures

pub returns-in-None : goal.returns-in-None
returns-in-None c = known_nowhere c.args.names.now c.args.other_names.now c.args.other_ids.now c.args.id c.in-None.ensures

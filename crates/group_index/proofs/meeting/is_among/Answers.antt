use Rattle.group_index.proofs.Among.{named_here, named_nowhere}
use Rattle.group_index.proofs.meeting.is_among.Goals as goal

pub returns-in-Some : goal.returns-in-Some
returns-in-Some c = named_here c.args.names.now c.args.ids.now c.args.node.now c.in-Some.id c.contains.result c.len.ensures.distinct c.in-Some.ensures.found c.contains.ensures

pub returns-in-None : goal.returns-in-None
returns-in-None c = named_nowhere c.args.names.now c.args.ids.now c.args.node.now c.in-None.ensures.missing

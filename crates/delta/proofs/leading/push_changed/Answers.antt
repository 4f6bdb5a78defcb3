use Rattle.delta.proofs.Above.{of_set}
use Rattle.delta.proofs.Lists.{events_more}
use Rattle.delta.proofs.leading.push_changed.Goals as goal

pub returns-in_ok-push-in-Some-id_of : goal.returns-in_ok-push-in-Some-id_of
returns-in_ok-push-in-Some-id_of c = events_more c.args.nodes.now c.args.ids.now.items c.push.new.self.items c.in-Some-id_of.id c.args.event.now c.requires
    (of_set c.args.event.now.tuple c.in-Some.field-0 c.in-Some.is) c.in-Some-id_of.ensures.found c.in_ok-push-in-Some-id_of.ensures.items

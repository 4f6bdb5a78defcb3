use Rattle.hot.proofs.Lists.{events_more}
use Rattle.hot.proofs.changed.push_changed.Goals as goal

pub returns-in_ok-push-in-Some : goal.returns-in_ok-push-in-Some
returns-in_ok-push-in-Some c = events_more c.args.nodes.now c.args.ids.now.items c.push.new.self.items c.in-Some.id c.args.event.now c.requires c.in-Some.ensures.found c.in_ok-push-in-Some.ensures.items

use Rattle.delta.proofs.Handed.{one_handed, one_kept_back}
use Rattle.delta.proofs.recalling.Recalling.tell.Goals as goal

pub returns-in_default-clause-handed : goal.returns-in_default-clause-handed
returns-in_default-clause-handed g c =
    let one = c.in_ok-told.ensures.asked in
    one_handed c.ask_for.new.nodes c.args.self.now.sets.now.rows c.args.self.now.changed.now c.args.self.now.asked.now.items c.push.new.self.items c.args.node (g.A.CountedArcs.asked c.args.self.now.arcs.now) (g.A.CountedArcs.asked c.ask_for.new.arcs) one.0 one.1 c.in_default.ensures.none c.in_ok-push.ensures.items one.2

pub returns-clause-handed : goal.returns-clause-handed
returns-clause-handed g c = one_kept_back c.args.self.now.nodes.now c.args.self.now.sets.now.rows c.args.self.now.changed.now c.args.self.now.asked.now.items c.push-2.new.self.items c.args.node (g.A.CountedArcs.asked c.args.self.now.arcs.now) c.in_ok-push-2.ensures.items

use Rattle.hot.proofs.Passed.{one_passed, one_not_passed}
use Rattle.hot.proofs.recalling.Recalling.tell.Goals as goal

pub returns-in_default-clause-passed : goal.returns-in_default-clause-passed
returns-in_default-clause-passed g c =
    let one = c.in_ok-told.ensures.counted in
    one_passed c.tell_of.new.numbers.nodes c.args.self.now.asked.now.items c.push.new.self.items c.args.node (g.F.CountedNodes.asked c.args.self.now.facts.now) (g.F.CountedNodes.asked c.tell_of.new.self)
    one.0 one.1 c.in_ok-push.ensures.items one.2

pub returns-clause-passed : goal.returns-clause-passed
returns-clause-passed g c = one_not_passed c.args.self.now.numbers.now.nodes c.args.self.now.asked.now.items c.push-2.new.self.items c.args.node (g.F.CountedNodes.asked c.args.self.now.facts.now) c.in_ok-push-2.ensures.items

use Rattle.facts.proofs.Naming.{set_more, set_passed}
use Rattle.facts.proofs.reading.push_set.Goals as goal

pub returns-in-None-clause-numbers : goal.returns-in-None-clause-numbers
returns-in-None-clause-numbers c = set_passed c.args.nodes.now c.args.ids.now.items c.args.tuple.now c.in-None.is

pub returns-in_ok-push-in-Some-clause-numbers : goal.returns-in_ok-push-in-Some-clause-numbers
returns-in_ok-push-in-Some-clause-numbers c =
    set_more c.args.nodes.now c.number_of.new.ids c.args.ids.now.items c.push.new.self.items c.in_ok-id-in-Some.id c.args.tuple.now c.in_ok-node-in-Some.node c.in-Some.relation c.in-Some.is c.in_ok-node-in-Some.ensures
    c.in_ok-id-in-Some.ensures.grew c.in_ok-id-in-Some.ensures.id c.in_ok-push-in-Some.ensures.items

use Rattle.facts.proofs.Naming.{computed_more, computed_passed, has_at}
use Rattle.facts.proofs.reading.push_computed.Goals as goal

pub returns-in-None-clause-numbers : goal.returns-in-None-clause-numbers
returns-in-None-clause-numbers c = computed_passed c.args.config.now c.args.relation.now c.args.nodes.now c.args.ids.now.items c.args.object.now c.in_ok-node.node c.in_ok-node.ensures c.in-None.ensures.none

pub returns-in_ok-push-in-Some-clause-numbers : goal.returns-in_ok-push-in-Some-clause-numbers
returns-in_ok-push-in-Some-clause-numbers c =
    let at = c.in-Some.ensures.found in
    computed_more c.args.config.now c.args.relation.now c.args.nodes.now c.number_of.new.ids c.args.ids.now.items c.push.new.self.items c.in_ok-id-in-Some.id c.args.object.now c.in_ok-node.node c.in_ok-node.ensures
    (has_at c.args.config.now c.in_ok-node.node _ at) c.in_ok-id-in-Some.ensures.grew c.in_ok-id-in-Some.ensures.id c.in_ok-push-in-Some.ensures.items

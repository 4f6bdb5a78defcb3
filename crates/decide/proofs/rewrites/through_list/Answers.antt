use Rattle.std.proofs.Common.{subst, sym}
use Rattle.std.specs.Prelude.{Some}
use Rattle.decide.specs.inside.Given.{HasSome}
use Rattle.decide.specs.inside.Asked.{GoesOn}
use Rattle.decide.specs.inside.Reads.{AreNodesOf}
use Rattle.decide.proofs.Found.{through_gave, some_grows, goes_read, goes_trans, asker_is}
use Rattle.decide.proofs.rewrites.through_list.Goals as goal

pub returns-clause-goes_on : goal.returns-clause-goes_on
returns-clause-goes_on c =
    let before : GoesOn c.args.facts.now c.args.search.now c.some_asked.new.search c.args.asking.now =
    goes_trans c.args.facts.now c.args.asking.now c.args.search.now c.parents_of.new.search c.some_asked.new.search c.in_ok-nodes.ensures.goes_on c.in_ok-found.ensures.goes_on in
    let are : AreNodesOf c.args.facts.now c.args.asking.now.node.now c.again.result c.again-2.result c.in_ok-nodes.nodes.items =
    subst (λ t. AreNodesOf c.args.facts.now c.args.asking.now.node.now t c.again-2.result c.in_ok-nodes.nodes.items) (sym c.again.ensures)
    (subst (λ r. AreNodesOf c.args.facts.now c.args.asking.now.node.now c.args.tupleset.now r c.in_ok-nodes.nodes.items) (sym c.again-2.ensures) c.in_ok-nodes.ensures.are) in
    goes_trans c.args.facts.now c.args.asking.now c.args.search.now c.some_asked.new.search c.keep_parents.new.self before
    (goes_read c.args.facts.now c.args.asking.now c.some_asked.new.search c.keep_parents.new.self before.asking c.keep_parents.ensures.grew
    (c.keep_parents.ensures.running c.args.facts.now c.args.asking.now.user.now (Some c.args.asking.now.number)
    (asker_is c.args.facts.now c.args.asking.now c.some_asked.new.search before.asking (λ n. AreNodesOf c.args.facts.now n c.again.result c.again-2.result c.in_ok-nodes.nodes.items) are)))

pub returns-clause-found : goal.returns-clause-found
returns-clause-found c =
    through_gave c.args.facts.now c.args.asking.now c.keep_parents.new.self c.args.tupleset.now c.args.relation.now c.in_ok-nodes.nodes.items c.in_ok-found.found
    c.in_ok-nodes.ensures.are
    (some_grows c.args.facts.now c.args.asking.now c.some_asked.new.search c.keep_parents.new.self c.in_ok-nodes.nodes.items c.in_ok-found.found c.keep_parents.ensures.grew
    (subst (λ ns. HasSome c.args.facts.now c.some_asked.new.search c.args.asking.now ns c.in_ok-found.found) c.deref.ensures.value c.in_ok-found.ensures.found))

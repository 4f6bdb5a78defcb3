use Rattle.std.proofs.Common.{arith}
use Rattle.lookup.specs.inside.Leading.{computes}
use Rattle.lookup.proofs.Growing.{grew_both}
use Rattle.lookup.proofs.Adding.{one_more_added, all_added}
use Rattle.lookup.proofs.leading.add_computed.Goals as goal

pub loop-relation-preserved : goal.loop-relation-preserved
loop-relation-preserved c =
    let node = c.args.node.now in
    let grew = c.in_ok-add_if_computed.ensures.kept in
    record {
      kept = grew_both c.args.reached.now c.loop-relation.reached c.add_if_computed.new.reached c.loop-relation.invariant.kept grew;
      added = one_more_added (computes node.relation) node.object c.relations-relation-items.result.now c.loop-relation.relation-index c.loop-relation.reached c.add_if_computed.new.reached
          c.relation-item.result c.loop-relation-test.true c.relation-item.is grew c.loop-relation.invariant.added c.in_ok-add_if_computed.ensures.added;
    }

pub returns-clause-added : goal.returns-clause-added
returns-clause-added c =
    let node = c.args.node.now in
    all_added (computes node.relation) node.object c.relations-relation-items.result.now c.loop-relation.relation-index c.loop-relation.reached c.args.config.now
    (omega (arith, c.loop-relation-test.false)) c.relations-relation-items.ensures.relations c.loop-relation.invariant.added

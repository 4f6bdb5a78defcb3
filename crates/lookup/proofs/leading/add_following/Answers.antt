use Rattle.std.proofs.Common.{arith}
use Rattle.lookup.specs.inside.Leading.{follows}
use Rattle.lookup.proofs.Growing.{grew_both}
use Rattle.lookup.proofs.Adding.{one_more_added, all_added}
use Rattle.lookup.proofs.leading.add_following.Goals as goal

pub loop-relation-preserved : goal.loop-relation-preserved
loop-relation-preserved c =
    let tupleset = c.args.tupleset.now in
    let grew = c.in_ok-add_if_following.ensures.kept in
    record {
      kept = grew_both c.args.reached.now c.loop-relation.reached c.add_if_following.new.reached c.loop-relation.invariant.kept grew;
      added = one_more_added (follows tupleset.relation c.args.node.now.relation) tupleset.object c.relations-relation-items.result.now c.loop-relation.relation-index c.loop-relation.reached
          c.add_if_following.new.reached c.relation-item.result c.loop-relation-test.true c.relation-item.is grew c.loop-relation.invariant.added c.in_ok-add_if_following.ensures.added;
    }

pub returns-clause-added : goal.returns-clause-added
returns-clause-added c =
    let tupleset = c.args.tupleset.now in
    all_added (follows tupleset.relation c.args.node.now.relation) tupleset.object c.relations-relation-items.result.now c.loop-relation.relation-index c.loop-relation.reached c.args.config.now
    (omega (arith, c.loop-relation-test.false)) c.relations-relation-items.ensures.relations c.loop-relation.invariant.added

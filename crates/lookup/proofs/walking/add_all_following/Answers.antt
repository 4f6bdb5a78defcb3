use Rattle.std.proofs.Common.{arith}
use Rattle.lookup.proofs.Growing.{grew_both}
use Rattle.lookup.proofs.Stepping.{one_more, all_of_them}
use Rattle.lookup.proofs.walking.add_all_following.Goals as goal

pub loop-tupleset-preserved : goal.loop-tupleset-preserved
loop-tupleset-preserved c = record {
  kept = grew_both c.args.reached.now c.loop-tupleset.reached c.add_following.new.reached c.loop-tupleset.invariant.kept c.in_ok-add_following.ensures.kept;
  added = one_more c.args.config.now c.args.node.now.relation c.loop-tupleset.reached c.add_following.new.reached c.args.tuplesets.now c.loop-tupleset.tupleset-index c.tupleset-item.result
      c.loop-tupleset-test.true c.tupleset-item.is c.in_ok-add_following.ensures.kept c.loop-tupleset.invariant.added c.in_ok-add_following.ensures.added;
}

pub returns-clause-added : goal.returns-clause-added
returns-clause-added c =
    all_of_them c.args.config.now c.args.node.now.relation c.loop-tupleset.reached c.args.tuplesets.now c.loop-tupleset.tupleset-index (omega (arith, c.loop-tupleset-test.false)) c.loop-tupleset.invariant.added

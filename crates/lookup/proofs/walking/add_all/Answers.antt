use Rattle.lookup.proofs.Growing.{grew_both, see_grew, one_seen}
use Rattle.lookup.proofs.walking.add_all.Goals as goal

pub loop-node-preserved : goal.loop-node-preserved
loop-node-preserved c =
    let grew = see_grew c.loop-node.reached c.see.new.self c.in-Some.node c.in_ok-see.field-0 c.in_ok-see.ensures.names in
    record {
      kept = grew_both c.args.reached.now c.loop-node.reached c.see.new.self c.loop-node.invariant.kept grew;
      added = one_seen c.loop-node.yielded c.loop-node.reached c.see.new.self c.in-Some.node c.in_ok-see.field-0 c.in_ok-see.ensures.id grew c.loop-node.invariant.added;
    }

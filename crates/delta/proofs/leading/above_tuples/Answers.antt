use Rattle.std.proofs.Common.{take, subst, arith}
use Rattle.std.specs.Prelude.{Contains}
use Rattle.facts.specs.Numbers.{AreNumbersOf}
use Rattle.facts.proofs.Naming.{one_more, all_of}
use Rattle.delta.specs.Layers.{IsAbove}
use Rattle.delta.specs.inside.Growing.{more_none, more_both}
use Rattle.delta.proofs.Numbered.{above_none}
use Rattle.delta.proofs.leading.above_tuples.Goals as goal

pub loop-tuple-init : goal.loop-tuple-init
loop-tuple-init c = record {
  more = more_none c.args.nodes.now;
  numbers = above_none c.args.config.now c.args.nodes.now c.new-ids.result.items c.new-ids.ensures.items;
}

pub loop-tuple-preserved : goal.loop-tuple-preserved
loop-tuple-preserved c = record {
  more = more_both c.args.nodes.now c.loop-tuple.nodes c.push_above.new.nodes c.loop-tuple.invariant.more c.in_ok-push_above.ensures.more;
  numbers = subst (λ ts. AreNumbersOf c.push_above.new.nodes c.push_above.new.ids.items (IsAbove c.args.config.now (Contains ts)))
      (one_more c.args.tuples.now c.loop-tuple.tuple-index c.tuple-item.result c.loop-tuple-test.true c.tuple-item.is)
      (c.in_ok-push_above.ensures.numbers (take c.loop-tuple.tuple-index c.args.tuples.now) c.loop-tuple.invariant.numbers);
}

pub returns-clause-more : goal.returns-clause-more
returns-clause-more c = c.loop-tuple.invariant.more

pub returns-clause-numbers : goal.returns-clause-numbers
returns-clause-numbers c = subst (λ ts. AreNumbersOf c.loop-tuple.nodes c.loop-tuple.ids.items (IsAbove c.args.config.now (Contains ts)))
    (all_of c.args.tuples.now c.loop-tuple.tuple-index (omega (arith, c.loop-tuple-test.false))) c.loop-tuple.invariant.numbers

pub returns-in_err-push_above-clause-more : goal.returns-in_err-push_above-clause-more
returns-in_err-push_above-clause-more c = more_both c.args.nodes.now c.loop-tuple.nodes c.push_above.new.nodes c.loop-tuple.invariant.more c.in_err-push_above.ensures.more

use Rattle.std.proofs.Common.{take, [], subst, arith}
use Rattle.std.specs.Prelude.{Contains}
use Rattle.meaning.proofs.Lists.{contains_none}
use Rattle.versions.specs.Named.{nodes_in}
use Rattle.facts.specs.Numbers.{AreNumbersOf}
use Rattle.facts.specs.inside.Tables.{grew_none, grew_both, numbers_none}
use Rattle.facts.proofs.Naming.{one_more, all_of}
use Rattle.facts.proofs.reading.sets_in.Goals as goal

pub loop-tuple-init : goal.loop-tuple-init
loop-tuple-init c = record {
  grew = grew_none c.args.nodes.now;
  numbers = numbers_none c.args.nodes.now c.new-ids.result.items (Contains []) c.new-ids.ensures.items (λ n h. contains_none n h);
}

pub loop-tuple-preserved : goal.loop-tuple-preserved
loop-tuple-preserved c = record {
  grew = grew_both c.args.nodes.now c.loop-tuple.nodes c.push_set.new.nodes c.loop-tuple.invariant.grew c.in_ok-push_set.ensures.grew;
  numbers = subst (λ ts. AreNumbersOf c.push_set.new.nodes c.push_set.new.ids.items (Contains (nodes_in ts)))
      (one_more c.args.tuples.now c.loop-tuple.tuple-index c.tuple-item.result c.loop-tuple-test.true c.tuple-item.is)
      (c.in_ok-push_set.ensures.numbers (take c.loop-tuple.tuple-index c.args.tuples.now) c.loop-tuple.invariant.numbers);
}

pub returns-clause-grew : goal.returns-clause-grew
returns-clause-grew c = c.loop-tuple.invariant.grew

pub returns-clause-numbers : goal.returns-clause-numbers
returns-clause-numbers c = subst (λ ts. AreNumbersOf c.loop-tuple.nodes c.loop-tuple.ids.items (Contains (nodes_in ts)))
    (all_of c.args.tuples.now c.loop-tuple.tuple-index (omega (arith, c.loop-tuple-test.false))) c.loop-tuple.invariant.numbers

pub returns-in_err-push_set-clause-grew : goal.returns-in_err-push_set-clause-grew
returns-in_err-push_set-clause-grew c = grew_both c.args.nodes.now c.loop-tuple.nodes c.push_set.new.nodes c.loop-tuple.invariant.grew c.in_err-push_set.ensures.grew

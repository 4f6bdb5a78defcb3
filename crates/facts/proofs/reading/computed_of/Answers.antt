use Rattle.std.proofs.Common.{take, [], subst, arith}
use Rattle.meaning.proofs.Lists.{contains_none}
use Rattle.facts.specs.Numbers.{AreNumbersOf}
use Rattle.facts.specs.Telling.{IsComputedOf}
use Rattle.facts.specs.inside.Tables.{grew_none, grew_both, numbers_none}
use Rattle.facts.proofs.Naming.{one_more, all_of}
use Rattle.facts.proofs.reading.computed_of.Goals as goal

pub loop-object-init : goal.loop-object-init
loop-object-init c = record {
  grew = grew_none c.args.nodes.now;
  numbers = numbers_none c.args.nodes.now c.new-ids.result.items (IsComputedOf c.args.config.now [] c.args.relation.now) c.new-ids.ensures.items (λ n h. contains_none h.0 h.1);
}

pub loop-object-preserved : goal.loop-object-preserved
loop-object-preserved c = record {
  grew = grew_both c.args.nodes.now c.loop-object.nodes c.push_computed.new.nodes c.loop-object.invariant.grew c.in_ok-push_computed.ensures.grew;
  numbers = subst (λ os. AreNumbersOf c.push_computed.new.nodes c.push_computed.new.ids.items (IsComputedOf c.args.config.now os c.args.relation.now))
      (one_more c.args.objects.now c.loop-object.object-index c.object-item.result c.loop-object-test.true c.object-item.is)
      (c.in_ok-push_computed.ensures.numbers (take c.loop-object.object-index c.args.objects.now) c.loop-object.invariant.numbers);
}

pub returns-clause-grew : goal.returns-clause-grew
returns-clause-grew c = c.loop-object.invariant.grew

pub returns-clause-numbers : goal.returns-clause-numbers
returns-clause-numbers c = subst (λ os. AreNumbersOf c.loop-object.nodes c.loop-object.ids.items (IsComputedOf c.args.config.now os c.args.relation.now))
    (all_of c.args.objects.now c.loop-object.object-index (omega (arith, c.loop-object-test.false))) c.loop-object.invariant.numbers

pub returns-in_err-push_computed-clause-grew : goal.returns-in_err-push_computed-clause-grew
returns-in_err-push_computed-clause-grew c = grew_both c.args.nodes.now c.loop-object.nodes c.push_computed.new.nodes c.loop-object.invariant.grew c.in_err-push_computed.ensures.grew

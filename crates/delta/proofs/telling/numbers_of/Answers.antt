use Rattle.std.proofs.Common.{take, [], subst, arith}
use Rattle.std.specs.Prelude.{Contains}
use Rattle.meaning.proofs.Lists.{contains_none}
use Rattle.facts.specs.Numbers.{AreNumbersOf}
use Rattle.facts.specs.inside.Tables.{numbers_none}
use Rattle.facts.proofs.Naming.{one_more, all_of}
use Rattle.delta.specs.inside.Growing.{more_none, more_both}
use Rattle.delta.proofs.Numbered.{list_push}
use Rattle.delta.proofs.telling.numbers_of.Goals as goal

pub loop-name-init : goal.loop-name-init
loop-name-init c = record {
  more = more_none c.args.nodes.now;
  numbers = numbers_none c.args.nodes.now c.new-ids.result.items (Contains []) c.new-ids.ensures.items (λ n h. contains_none n h);
}

pub loop-name-preserved : goal.loop-name-preserved
loop-name-preserved c =
    let put = c.in_ok-push_number.ensures.number in
    record {
      more = more_both c.args.nodes.now c.loop-name.nodes c.push_number.new.nodes c.loop-name.invariant.more c.in_ok-push_number.ensures.more;
      numbers = subst (λ ns. AreNumbersOf c.push_number.new.nodes c.push_number.new.ids.items (Contains ns))
          (one_more c.args.names.now c.loop-name.name-index c.name-item.result c.loop-name-test.true c.name-item.is)
          (list_push c.loop-name.nodes c.push_number.new.nodes c.loop-name.ids.items c.push_number.new.ids.items put.0 c.name-item.result (take c.loop-name.name-index c.args.names.now)
          c.in_ok-push_number.ensures.more.grew put.1 put.2 c.loop-name.invariant.numbers);
    }

pub returns-clause-more : goal.returns-clause-more
returns-clause-more c = c.loop-name.invariant.more

pub returns-clause-numbers : goal.returns-clause-numbers
returns-clause-numbers c = subst (λ ns. AreNumbersOf c.loop-name.nodes c.loop-name.ids.items (Contains ns))
    (all_of c.args.names.now c.loop-name.name-index (omega (arith, c.loop-name-test.false))) c.loop-name.invariant.numbers

pub returns-in_err-push_number-clause-more : goal.returns-in_err-push_number-clause-more
returns-in_err-push_number-clause-more c = more_both c.args.nodes.now c.loop-name.nodes c.push_number.new.nodes c.loop-name.invariant.more c.in_err-push_number.ensures.more

use Rattle.std.proofs.Common.{rules, of_calls}
use Rattle.std.specs.Ordering.{is_lt}
use Rattle.std.proofs.lemmas.Fn.{always_returns_same}
use Rattle.names.specs.Order.{tuple_cmp}
use Rattle.leopard.proofs.Inputs.{in_order, out_of_order}
use Rattle.leopard.proofs.input.are_in_order.Goals as goal

pub returns-clause-yes : goal.returns-clause-yes
returns-clause-yes c = in_order c.args.tuples.now c.is_sorted_by.result (c.is_sorted_by.ensures.cases (λ t u. is_lt (tuple_cmp t u)) (always_returns_same _ _ _ (λ a r f k. search (rules, of_calls))))

pub returns-clause-no : goal.returns-clause-no
returns-clause-no c = out_of_order c.args.tuples.now c.is_sorted_by.result (c.is_sorted_by.ensures.cases (λ t u. is_lt (tuple_cmp t u)) (always_returns_same _ _ _ (λ a r f k. search (rules, of_calls))))

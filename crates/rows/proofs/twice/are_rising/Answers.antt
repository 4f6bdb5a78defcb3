use Rattle.std.proofs.Common.{rules, of_calls}
use Rattle.std.proofs.lemmas.Fn.{always_returns_same}
use Rattle.std.specs.Ordering.{is_lt}
use Rattle.names.specs.Order.{tuple_cmp}
use Rattle.rows.proofs.twice.are_rising.Goals as goal

pub returns : goal.returns
returns c = c.is_sorted_by.ensures.cases (λ o p. is_lt (tuple_cmp o.tuple p.tuple)) (always_returns_same _ _ _ (λ a r f k. search (rules, of_calls)))

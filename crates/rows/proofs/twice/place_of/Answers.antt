use Rattle.std.proofs.Common.{rules, of_calls, Some}
use Rattle.std.proofs.lemmas.Fn.{always_returns_same}
use Rattle.std.specs.Option.{option_cmp}
use Rattle.names.specs.Order.{tuple_cmp}
use Rattle.rows.specs.inside.Places.{tuple_at}
use Rattle.rows.proofs.twice.place_of.Goals as goal

pub returns-clause-position : goal.returns-clause-position
returns-clause-position c =
    c.binary_search_by.ensures.position (λ p. option_cmp tuple_cmp (tuple_at c.args.ops.now p) (Some c.args.tuple.now)) (always_returns_same _ _ _ (λ a r f k. search (rules, of_calls)))

use Rattle.std.proofs.Common.{◌∙◌, sym}
use Rattle.serde_json.specs.View.{view}
use Rattle.leopard.specs.Exprs.{query_of}
use Rattle.bodies.proofs.Grouped.{not_allowed}
use Rattle.bodies.proofs.grouping.groups_of.Goals as goal

pub returns-then-not-is_allowed-clause-err : goal.returns-then-not-is_allowed-clause-err
returns-then-not-is_allowed-clause-err c =
    not_allowed (view c.args.value.now) (view c.in-Some.part.now) c.in-Some.ensures (query_of c.in_ok-expr.expr) c.in_ok-limit.limit
    c.in_ok-expr.ensures.ok c.in_ok-limit.ensures.ok (sym c.is_allowed.ensures ∙ c.if-not-is_allowed.true)

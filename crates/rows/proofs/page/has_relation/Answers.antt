use Rattle.rows.proofs.Paging.{has_it}
use Rattle.rows.proofs.page.has_relation.Goals as goal

pub returns-in-Some : goal.returns-in-Some
returns-in-Some c =
    has_it c.args.asked.now c.in-Some.relation c.as_str.result.now c.relation.result.now c.args.tuple.now.node.relation c.eq.result c.in-Some.is c.relation.ensures.text c.as_str.ensures.text c.eq.ensures

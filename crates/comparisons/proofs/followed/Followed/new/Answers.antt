use Rattle.comparisons.proofs.Moving.{begun}
use Rattle.comparisons.proofs.followed.Followed.new.Goals as goal

pub invariant_of-result : goal.invariant_of-result
invariant_of-result c =
    let index = c.in_ok-groups in
    begun c.empty-rows.result c.new.result index.groups c.at-2.result c.at.result c.empty-rows.ensures c.at-2.ensures c.at.ensures c.each_view_is_valid.ensures c.new.ensures.hot
    index.ensures.index index.ensures.base index.ensures.cursor

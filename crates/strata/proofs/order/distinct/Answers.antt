use Rattle.std.proofs.Common.{arith}
use Rattle.std.proofs.lemmas.List.Filters.{dedup_is}
use Rattle.std.proofs.lemmas.List.Sorted.{IsNonDecreasingBy-from_all_adjacent}
use Rattle.strata.specs.declared.graph.Step.{Step}
use Rattle.strata.proofs.Orders.{dedup_same, dedup_order, same_step, step_itself, starts_rise}
use Rattle.strata.proofs.order.distinct.Goals as goal

pub returns-clause-same : goal.returns-clause-same
returns-clause-same c =
    let is = dedup_is _ _ _ c.dedup.ensures.filtered in
    let copied = c.in_ok-kept.ensures.items_if_clones_equal (λ x y e. e) in
    rw (is, ← copied) (dedup_same _ same_step step_itself _ _ c.sort_unstable.ensures.permutation)

pub returns-clause-in_order : goal.returns-clause-in_order
returns-clause-in_order c =
    let is = dedup_is _ _ _ c.dedup.ensures.filtered in
    rw is (dedup_order (λ (s : Step). s.from) _ _ (IsNonDecreasingBy-from_all_adjacent (λ (s : Step). s.from) _ (λ k d h. starts_rise _ _ _ (c.sort_unstable.ensures.sorted k d (omega arith) h))))

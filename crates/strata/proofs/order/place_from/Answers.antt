use Rattle.std.proofs.Common.{rules, ltb, ltb-true, ltb-false}
use Rattle.std.proofs.lemmas.List.Sorted.{IsPartitionPoint-from_clause, IsPartitionedBy-ltb}
use Rattle.strata.specs.declared.graph.Step.{Step}
use Rattle.strata.proofs.order.place_from.Goals as goal

pub returns-clause-before : goal.returns-clause-before
returns-clause-before c =
    let point = IsPartitionPoint-from_clause (λ (s : Step). ltb s.from c.args.from) _ _ c.partition_point.ensures.partitioned (IsPartitionedBy-ltb (λ (s : Step). s.from) _ c.args.from c.requires) (λ a r q k. search rules) in
    λ k d l h. ltb-true _ _ (point.0 k d l h)

pub returns-clause-after : goal.returns-clause-after
returns-clause-after c =
    let point = IsPartitionPoint-from_clause (λ (s : Step). ltb s.from c.args.from) _ _ c.partition_point.ensures.partitioned (IsPartitionedBy-ltb (λ (s : Step). s.from) _ c.args.from c.requires) (λ a r q k. search rules) in
    λ k d l h. ltb-false _ _ (point.1 k d l h)

use Rattle.std.proofs.Common.{rules, leb, leb-true, leb-false}
use Rattle.std.proofs.lemmas.List.Sorted.{IsPartitionPoint-from_clause, IsPartitionedBy-leb}
use Rattle.strata.specs.declared.graph.Step.{Step}
use Rattle.strata.proofs.order.place_past.Goals as goal

pub returns-clause-before : goal.returns-clause-before
returns-clause-before c =
    let point = IsPartitionPoint-from_clause (λ (s : Step). leb s.from c.args.from) _ _ c.partition_point.ensures.partitioned (IsPartitionedBy-leb (λ (s : Step). s.from) _ c.args.from c.requires) (λ a r q k. search rules) in
    λ k d l h. leb-true _ _ (point.0 k d l h)

pub returns-clause-after : goal.returns-clause-after
returns-clause-after c =
    let point = IsPartitionPoint-from_clause (λ (s : Step). leb s.from c.args.from) _ _ c.partition_point.ensures.partitioned (IsPartitionedBy-leb (λ (s : Step). s.from) _ c.args.from c.requires) (λ a r q k. search rules) in
    λ k d l h. leb-false _ _ (point.1 k d l h)

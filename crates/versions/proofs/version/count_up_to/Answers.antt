use Rattle.std.proofs.Common.{arith, rules, leb, leb-true, leb-false}
use Rattle.std.proofs.lemmas.List.Sorted.{IsPartitionPoint-from_clause, IsPartitionedBy-leb}
use Rattle.versions.specs.declared.version.Version.{Version}
use Rattle.versions.proofs.version.count_up_to.Goals as goal

pub returns-clause-within : goal.returns-clause-within
returns-clause-within c = let long = c.args.versions.now.ok.0 in omega (arith, c.partition_point.ensures.bound, long)

pub returns-clause-up_to : goal.returns-clause-up_to
returns-clause-up_to c =
    let point = IsPartitionPoint-from_clause (λ (m : Version). leb m.rev c.args.rev) _ _ c.partition_point.ensures.partitioned (IsPartitionedBy-leb (λ (m : Version). m.rev) _ c.args.rev c.requires) (λ a r q k. search rules) in
    λ k d l h. leb-true _ _ (point.0 k d l h)

pub returns-clause-past : goal.returns-clause-past
returns-clause-past c =
    let point = IsPartitionPoint-from_clause (λ (m : Version). leb m.rev c.args.rev) _ _ c.partition_point.ensures.partitioned (IsPartitionedBy-leb (λ (m : Version). m.rev) _ c.args.rev c.requires) (λ a r q k. search rules) in
    λ k d l h. leb-false _ _ (point.1 k d l h)

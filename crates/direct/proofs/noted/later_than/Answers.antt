use Rattle.std.proofs.Common.{◌-◌, List, length, ap, ◌∙◌, rules, leb, leb-true, leb-false, arith}
use Rattle.std.proofs.lemmas.List.Sorted.{IsPartitionPoint-from_clause, IsPartitionedBy-leb}
use Rattle.direct.specs.declared.noted.EarlierGroups.{EarlierGroups}
use Rattle.direct.specs.Before.{set_at}
use Rattle.direct.proofs.Past.{later_from, set_past, rest_of}
use Rattle.direct.proofs.noted.later_than.Goals as goal

pub returns-clause-later : goal.returns-clause-later
returns-clause-later c =
    let es : List EarlierGroups = c.args.earlier.now in
    let point = IsPartitionPoint-from_clause (λ (e : EarlierGroups). leb e.rev c.args.rev) _ _ c.partition_point-first.ensures.partitioned (IsPartitionedBy-leb (λ (e : EarlierGroups). e.rev) _ c.args.rev c.requires) (λ a r q k. search rules) in
    later_from es c.args.rev c.partition_point-first.result (length es - c.partition_point-first.result) (omega arith) (λ k d l h. leb-false _ _ (point.1 k d l h))

pub returns-clause-same : goal.returns-clause-same
returns-clause-same c = λ sets user.
    let es : List EarlierGroups = c.args.earlier.now in
    let point = IsPartitionPoint-from_clause (λ (e : EarlierGroups). leb e.rev c.args.rev) _ _ c.partition_point-first.ensures.partitioned (IsPartitionedBy-leb (λ (e : EarlierGroups). e.rev) _ c.args.rev c.requires) (λ a r q k. search rules) in
    ap (λ xs. set_at xs sets user c.args.rev) (rest_of es c.partition_point-first.result (length es - c.partition_point-first.result) (omega arith))
    ∙ set_past es sets user c.args.rev c.partition_point-first.result (λ k d l h. leb-true _ _ (point.0 k d l h))

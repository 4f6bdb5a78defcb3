use Rattle.std.proofs.Common.{◌-◌, List, length, ap, ◌∙◌, rules, leb, leb-true, leb-false, arith}
use Rattle.std.proofs.lemmas.List.Sorted.{IsPartitionPoint-from_clause, IsPartitionedBy-leb}
use Rattle.delta.specs.declared.earlier.Earlier.{Earlier}
use Rattle.delta.specs.Noted.{led_at}
use Rattle.delta.proofs.Rows.{later_from, led_past, rest_of}
use Rattle.delta.proofs.earlier.later_than.Goals as goal

pub returns-clause-later : goal.returns-clause-later
returns-clause-later c =
    let es : List Earlier = c.args.earlier.now in
    let point = IsPartitionPoint-from_clause (λ (e : Earlier). leb e.rev c.args.rev) _ _ c.partition_point-first.ensures.partitioned (IsPartitionedBy-leb (λ (e : Earlier). e.rev) _ c.args.rev c.requires) (λ a r q k. search rules) in
    later_from es c.args.rev c.partition_point-first.result (length es - c.partition_point-first.result) (omega arith) (λ k d l h. leb-false _ _ (point.1 k d l h))

pub returns-clause-led : goal.returns-clause-led
returns-clause-led c = λ rows i.
    let es : List Earlier = c.args.earlier.now in
    let point = IsPartitionPoint-from_clause (λ (e : Earlier). leb e.rev c.args.rev) _ _ c.partition_point-first.ensures.partitioned (IsPartitionedBy-leb (λ (e : Earlier). e.rev) _ c.args.rev c.requires) (λ a r q k. search rules) in
    ap (λ xs. led_at xs rows i c.args.rev) (rest_of es c.partition_point-first.result (length es - c.partition_point-first.result) (omega arith))
    ∙ led_past es rows i c.args.rev c.partition_point-first.result (λ k d l h. leb-true _ _ (point.0 k d l h))

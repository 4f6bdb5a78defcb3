use Rattle.std.proofs.Common.{rules, of_calls}
use Rattle.std.specs.Ordering.{is_lt}
use Rattle.std.proofs.lemmas.List.Sorted.{IsPartitionPoint-from_clause}
use Rattle.names.specs.Order.{node_cmp}
use Rattle.names.specs.declared.tuple.Tuple.{Tuple}
use Rattle.leopard.proofs.Inputs.{below_first}
use Rattle.leopard.proofs.input.place_from.Goals as goal

pub returns-clause-before : goal.returns-clause-before
returns-clause-before c =
    (IsPartitionPoint-from_clause (λ (t : Tuple). is_lt (node_cmp t.node c.args.node.now)) _ _ c.partition_point.ensures.partitioned (below_first c.args.tuples.now c.args.node.now c.requires) (λ a r q k. search (rules, of_calls))).0

pub returns-clause-after : goal.returns-clause-after
returns-clause-after c =
    (IsPartitionPoint-from_clause (λ (t : Tuple). is_lt (node_cmp t.node c.args.node.now)) _ _ c.partition_point.ensures.partitioned (below_first c.args.tuples.now c.args.node.now c.requires) (λ a r q k. search (rules, of_calls))).1

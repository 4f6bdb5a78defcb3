use Rattle.std.proofs.Common.{rules}
use Rattle.std.specs.List.{list_any}
use Rattle.std.specs.Ordering.{eq_by_cmp}
use Rattle.std.proofs.lemmas.Fn.{filter_same}
use Rattle.names.specs.Order.{node_cmp}
use Rattle.names.specs.declared.node.Node.{Node}
use Rattle.leopard.proofs.Nodes.{both_have}
use Rattle.leopard.proofs.sets.common.Goals as goal

pub returns : goal.returns
returns c = both_have c.args.nodes.keys c.args.others.now.keys c.retain.new.self.keys
    (filter_same _ (λ (m : Node). list_any (eq_by_cmp node_cmp m) c.args.others.now.keys) _ (λ x b f' k. search rules) _ _ c.retain.ensures.filtered)

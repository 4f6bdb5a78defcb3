use Rattle.leopard.proofs.Nodes.{put_node, there_node}
use Rattle.leopard.proofs.sets.put.Goals as goal

pub returns-clause-gains : goal.returns-clause-gains
returns-clause-gains c = put_node c.args.nodes.now.keys c.insert.new.self.keys c.args.node c.in_ok-insert.ensures.updates.0

pub returns-clause-there : goal.returns-clause-there
returns-clause-there c = there_node c.args.nodes.now.keys c.args.node c.in_ok-insert.field-0 c.in_ok-insert.ensures.added

use Rattle.plain.proofs.OrderedSets.{members_all}
use Rattle.plain.proofs.membership.members.Goals as goal

pub returns-clause-ok : goal.returns-clause-ok
returns-clause-ok c =
    rw c.in_ok-in_order.ensures.items
    (members_all c.args.snapshot.now c.source_of-source.result c.source_of-source.ensures c.args.node.now c.in_ok-users.users.keys c.in_ok-members.members.keys c.in_ok-users.ensures c.in_ok-members.ensures)

use Rattle.zookie.specs.Text.{zookie_text}
use Rattle.bodies.proofs.Listing.{told_plain}
use Rattle.bodies.proofs.Grouped.{groups_plain}
use Rattle.bodies.proofs.grouping.groups.Goals as goal

pub say-requires : goal.say-requires
say-requires c = told_plain _ c.groups_value.result (groups_plain c.args.nodes.now (zookie_text c.args.zookie.now.store c.args.zookie.now.rev)) c.groups_value.ensures

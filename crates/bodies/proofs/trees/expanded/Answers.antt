use Rattle.zookie.specs.Text.{zookie_text}
use Rattle.expand.specs.Viewed.{tree_of}
use Rattle.bodies.proofs.Listing.{told_plain}
use Rattle.bodies.proofs.Branches.{expanded_plain}
use Rattle.bodies.proofs.trees.expanded.Goals as goal

pub say-requires : goal.say-requires
say-requires c = told_plain _ c.expanded_value.result (expanded_plain (tree_of c.args.tree.now) (zookie_text c.args.zookie.now.store c.args.zookie.now.rev)) c.expanded_value.ensures

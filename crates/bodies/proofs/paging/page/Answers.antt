use Rattle.zookie.specs.Text.{zookie_text}
use Rattle.bodies.proofs.Listing.{told_plain}
use Rattle.bodies.proofs.Looked.{page_plain}
use Rattle.bodies.proofs.paging.page.Goals as goal

pub say-requires : goal.say-requires
say-requires c = told_plain _ c.page_value.result (page_plain c.args.tuples.now (zookie_text c.args.zookie.now.store c.args.zookie.now.rev)) c.page_value.ensures

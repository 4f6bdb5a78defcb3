use Rattle.bodies.proofs.Listing.{told_plain}
use Rattle.bodies.proofs.Events.{page_plain}
use Rattle.bodies.proofs.pages.watched.Goals as goal

pub say-requires : goal.say-requires
say-requires c = told_plain _ c.page_value.result (page_plain c.args.store c.args.page.now) c.page_value.ensures

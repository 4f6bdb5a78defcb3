use Rattle.zookie.specs.Text.{zookie_text}
use Rattle.bodies.proofs.Listing.{told_plain}
use Rattle.bodies.proofs.Looked.{objects_plain}
use Rattle.bodies.proofs.looking.objects.Goals as goal

pub say-requires : goal.say-requires
say-requires c = told_plain _ c.objects_value.result (objects_plain c.args.namespace.now c.args.ids.now (zookie_text c.args.zookie.now.store c.args.zookie.now.rev)) c.objects_value.ensures

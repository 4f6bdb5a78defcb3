use Rattle.std.proofs.Common.{take}
use Rattle.direct.specs.inside.Listing.{AreNamed}
use Rattle.direct.proofs.naming.named.Given as goal

abbrev pub invariant-loop-id : goal.invariant-loop-id
invariant-loop-id l = AreNamed l.nodes (take l.id-index l.ids) l.found.items

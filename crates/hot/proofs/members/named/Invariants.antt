use Rattle.std.proofs.Common.{take}
use Rattle.hot.specs.inside.Named.{AreNamed}
use Rattle.hot.proofs.members.named.Given as goal

abbrev pub invariant-loop-id : goal.invariant-loop-id
invariant-loop-id l = AreNamed l.users (take l.id-index l.ids) l.found.items

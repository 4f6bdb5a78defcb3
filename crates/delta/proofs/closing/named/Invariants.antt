use Rattle.std.proofs.Common.{take}
use Rattle.delta.specs.inside.Named.{AreNamed}
use Rattle.delta.proofs.closing.named.Given as goal

abbrev pub invariant-loop-id : goal.invariant-loop-id
invariant-loop-id l = AreNamed l.nodes (take l.id-index l.ids) l.found.items

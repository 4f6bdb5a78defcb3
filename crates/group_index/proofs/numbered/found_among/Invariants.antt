use Rattle.std.proofs.Common.{take}
use Rattle.std.specs.Prelude.{Contains}
use Rattle.leopard.specs.Finding.{AreFound}
use Rattle.group_index.proofs.numbered.found_among.Given as goal

abbrev pub invariant-loop-group : goal.invariant-loop-group
invariant-loop-group l = AreFound l.names (Contains (take l.group-index l.groups)) l.ids.items l.others.keys

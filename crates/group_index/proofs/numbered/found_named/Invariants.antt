use Rattle.std.proofs.Common.{take}
use Rattle.leopard.specs.Finding.{IsNamedBy, AreFound}
use Rattle.group_index.proofs.numbered.found_named.Given as goal

abbrev pub invariant-loop-number : goal.invariant-loop-number
invariant-loop-number l = AreFound l.names (IsNamedBy l.table (take l.number-index l.numbers)) l.ids.items l.others.keys

use Rattle.std.proofs.Common.{take}
use Rattle.leopard.specs.inside.Asking.{Sees}
use Rattle.leopard.proofs.walk.see_all.Given as goal

abbrev pub invariant-loop-end : goal.invariant-loop-end
invariant-loop-end l = Sees (take l.end-index l.ends) l.initial.seen.keys l.initial.left.items l.seen.keys l.left.items

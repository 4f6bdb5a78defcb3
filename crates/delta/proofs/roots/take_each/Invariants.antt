use Rattle.std.proofs.Common.{take}
use Rattle.delta.specs.inside.Putting.{IsWithout}
use Rattle.delta.proofs.roots.take_each.Given as goal

abbrev pub invariant-loop-id : goal.invariant-loop-id
invariant-loop-id l = IsWithout l.ids l.initial.ids (take l.id-index l.less)

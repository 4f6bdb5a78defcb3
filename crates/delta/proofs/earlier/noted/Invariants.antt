use Rattle.std.proofs.Common.{take}
use Rattle.delta.specs.Noted.{led_in}
use Rattle.delta.specs.inside.Noting.{AreNotedOf}
use Rattle.delta.proofs.earlier.noted.Given as goal

abbrev pub invariant-loop-group : goal.invariant-loop-group
invariant-loop-group l = AreNotedOf l.rev (led_in l.sets.rows) (take l.group-index l.groups) l.list.items

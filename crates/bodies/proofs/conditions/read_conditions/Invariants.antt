use Rattle.std.proofs.Common.{take, map}
use Rattle.serde_json.specs.View.{view}
use Rattle.bodies.proofs.AskedConditions.{Read}
use Rattle.bodies.proofs.conditions.read_conditions.Given as goal

abbrev pub invariant-loop-item : goal.invariant-loop-item
invariant-loop-item l = Read (map view (take l.item-index l.item-items)) l.conditions.items l.bad

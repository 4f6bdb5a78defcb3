use Rattle.std.proofs.Common.{take, map}
use Rattle.std.specs.List.{AllZip}
use Rattle.serde_json.specs.View.{view}
use Rattle.bodies.specs.Writing.{AsksOp}
use Rattle.bodies.proofs.ops.read_ops.Given as goal

abbrev pub invariant-loop-item : goal.invariant-loop-item
invariant-loop-item l = AllZip AsksOp (map view (take l.item-index l.item-items)) l.ops.items

use Rattle.std.proofs.Common.{take, map}
use Rattle.std.specs.List.{AllZip}
use Rattle.serde_json.specs.View.{view}
use Rattle.bodies.specs.Watching.{AsksName}
use Rattle.bodies.proofs.watching.read_names.Given as goal

abbrev pub invariant-loop-item : goal.invariant-loop-item
invariant-loop-item l = AllZip AsksName (map view (take l.item-index l.item-items)) l.names.items

use Rattle.std.proofs.Common.{◌≡◌, List, [], ◌++◌, take}
use Rattle.serde_json.specs.View.{items_view}
use Rattle.serde_json.proofs.Views.{Entry}
use Rattle.leopard.specs.Exprs.{part_queries}
use Rattle.bodies.specs.Grouping.{AreExprs}
use Rattle.bodies.proofs.exprs.+read.Given as goal

abbrev pub invariant-read_parts-loop-item : goal.invariant-read_parts-loop-item
invariant-read_parts-loop-item l = AreExprs (items_view (take l.item-index l.item-items)) (part_queries l.parts.items)

abbrev pub invariant-read_member-loop-key : goal.invariant-read_member-loop-key
invariant-read_member-loop-key l =
    (done : List Entry) × (l.members.entries ≡ done ++ l.key-iterator) × (done ≡ [])

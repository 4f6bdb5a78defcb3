use Rattle.std.proofs.Common.{◌||◌, arith, get_or, ap, ◌∙◌}
use Rattle.least_sets.specs.World.{has, arcs_of}
use Rattle.region.specs.Rules.{shape_of}
use Rattle.region.specs.Tables.{listed}
use Rattle.region.proofs.Rooms.{slice_at, get_or_same}
use Rattle.region.proofs.Grouped.{named_none, named_more}
use Rattle.region.proofs.solve.named_from.Goals as goal

pub loop-i-init : goal.loop-i-init
loop-i-init c = named_none c.args.told.now (listed c.new-back.result)

pub loop-i-preserved : goal.loop-i-preserved
loop-i-preserved c = named_more c.args.told.now c.loop-i.i (get_or c.args.told.now c.loop-i.i c.index-told-i.result) c.push_named.new.nodes.items (listed c.loop-i.back) (listed c.push_at_each.new.table)
    (slice_at c.args.told.now c.loop-i.i (get_or c.args.told.now c.loop-i.i c.index-told-i.result) (omega arith) (get_or_same c.args.told.now c.loop-i.i c.index-told-i.result (omega arith)))
    (λ m. c.in_ok-push_named.ensures m ∙ ap (λ xs. has xs m || has (arcs_of (shape_of (get_or c.args.told.now c.loop-i.i c.index-told-i.result).rule)) m) c.clear.ensures.items)
    (rw c.deref.ensures.value at c.in_ok-push_at_each.ensures) c.loop-i.invariant

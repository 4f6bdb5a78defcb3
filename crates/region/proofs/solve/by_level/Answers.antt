use Rattle.std.proofs.Common.{arith, get_or}
use Rattle.region.specs.Tables.{listed}
use Rattle.region.proofs.Rooms.{slice_at, get_or_same}
use Rattle.region.proofs.Grouped.{grouped_none, grouped_more}
use Rattle.region.proofs.solve.by_level.Goals as goal

pub loop-i-init : goal.loop-i-init
loop-i-init c = grouped_none c.args.told.now (listed c.new-groups.result)

pub loop-i-preserved : goal.loop-i-preserved
loop-i-preserved c = grouped_more c.args.told.now c.loop-i.i (get_or c.args.told.now c.loop-i.i c.index-told-i.result) (listed c.loop-i.groups) (listed c.push_at.new.table)
    (slice_at c.args.told.now c.loop-i.i (get_or c.args.told.now c.loop-i.i c.index-told-i.result) (omega arith) (get_or_same c.args.told.now c.loop-i.i c.index-told-i.result (omega arith)))
    (rw c.from.ensures at c.in_ok-push_at.ensures.same) (rw c.from.ensures at c.in_ok-push_at.ensures.more) c.loop-i.invariant

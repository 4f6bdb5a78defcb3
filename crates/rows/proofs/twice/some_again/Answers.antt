use Rattle.std.proofs.Common.{sym, subst, arith}
use Rattle.rows.proofs.Repeats.{Placed, none_placed, all_placed, found_twice, one_placed}
use Rattle.rows.proofs.twice.some_again.Goals as goal

pub loop-i-init : goal.loop-i-init
loop-i-init c = rw c.new-places.ensures (none_placed c.args.ops.now)

pub returns-in-Ok : goal.returns-in-Ok
returns-in-Ok c =
    let placed = subst (Placed c.args.ops.now c.loop-i.i) (sym c.as_slice.ensures.value) c.loop-i.invariant in
    sym (found_twice _ _ c.index-ops-i.result _ (omega arith) placed _ c.in-Ok.ensures.bound c.in-Ok.ensures.position)

pub loop-i-preserved : goal.loop-i-preserved
loop-i-preserved c =
    let placed = subst (Placed c.args.ops.now c.loop-i.i) (sym c.as_slice.ensures.value) c.loop-i.invariant in
    rw (c.insert.ensures.items, ← c.as_slice.ensures.value) (one_placed _ _ c.index-ops-i.result _ (omega arith) placed _ c.in-Err.ensures.bound c.in-Err.ensures.position)

pub returns : goal.returns
returns c = sym (all_placed _ _ _ (omega arith) c.loop-i.invariant)

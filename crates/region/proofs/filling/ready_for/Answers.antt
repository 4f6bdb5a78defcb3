use Rattle.std.proofs.Common.{◌+◌, sym, ◌∙◌, subst}
use Rattle.region.specs.Tables.{over}
use Rattle.region.proofs.AfterChange.{IsReadyTo, ready_put, ready_skip}
use Rattle.region.proofs.filling.ready_for.Goals.{then-not-contains_key+in_ok-row+in_ok-put_ready, else-not-contains_key}
use Rattle.region.proofs.filling.ready_for.Goals as goal

pub loop-t-preserved : goal.loop-t-preserved
loop-t-preserved c =
    let told = c.args.told.now in
    let at = c.loop-t.t-index in
    let rows = c.args.kept.now.rows in
    let sets = over c.args.fresh rows in
    elim c.if-not-contains_key.branch [
      | then-not-contains_key+in_ok-row+in_ok-put_ready w ↦
          subst (λ r. IsReadyTo told (at + 1) sets (over c.if-not-contains_key.fresh rows) r) (sym w.ready-is)
          (subst (λ f. IsReadyTo told (at + 1) sets (over f rows) w.put_ready.new.ready) (sym w.fresh-is)
          (ready_put told at c.t-item.result c.loop-t.ready w.put_ready.new.ready w.in_ok-row.row sets (over c.loop-t.fresh rows) (over w.row_for.new.fresh rows) c.t-item.is c.loop-t-test.true
          w.in_ok-put_ready.ensures w.in_ok-row.ensures.arcs w.in_ok-row.ensures.members w.row_for.ensures.others (sym c.contains_key.ensures ∙ w.if-not-contains_key.true) c.loop-t.invariant))
      | else-not-contains_key w ↦
          subst (λ r. IsReadyTo told (at + 1) sets (over c.if-not-contains_key.fresh rows) r) (sym w.ready-is)
          (subst (λ f. IsReadyTo told (at + 1) sets (over f rows) c.loop-t.ready) (sym w.fresh-is)
          (ready_skip told at c.t-item.result c.loop-t.ready sets (over c.loop-t.fresh rows) c.t-item.is c.loop-t-test.true
          (sym c.contains_key.ensures ∙ w.if-not-contains_key.false) c.loop-t.invariant))
    ]

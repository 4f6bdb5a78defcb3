use Rattle.std.proofs.Common.{◌+◌, sym, subst, arith}
use Rattle.lookup.proofs.Candidates.{HasIds, one_node_more, no_more_nodes, all_ids}
use Rattle.lookup.proofs.walking.ids_in.Goals.{in-Some+in_ok-push_id, in_default}
use Rattle.lookup.proofs.walking.ids_in.Goals as goal

pub loop-place-preserved : goal.loop-place-preserved
loop-place-preserved c =
    let asked = c.args.asked.now in
    let nodes = c.args.reached.now in
    let place = c.loop-place.place in
    elim c.match-name.branch [
      | in-Some+in_ok-push_id w ↦ subst (λ ids. HasIds asked nodes (place + 1) ids.items) (sym w.ids-is)
          (one_node_more asked nodes place c.loop-place.ids.items w.push_id.new.ids.items w.in-Some.node.now (sym w.in-Some.ensures)
          w.in_ok-push_id.ensures.kept w.in_ok-push_id.ensures.added c.loop-place.invariant)
      | in_default w ↦ subst (λ ids. HasIds asked nodes (place + 1) ids.items) (sym w.ids-is)
          (no_more_nodes asked nodes place c.loop-place.ids.items (sym w.in_default.ensures) c.loop-place.invariant)
    ]

pub returns : goal.returns
returns c =
    all_ids c.args.asked.now c.args.reached.now c.loop-place.place c.loop-place.ids.items (omega (arith, c.loop-place-test.false, c.len-place-end.ensures.len)) c.loop-place.invariant

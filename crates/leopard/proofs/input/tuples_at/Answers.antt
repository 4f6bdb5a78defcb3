use Rattle.leopard.proofs.Inputs.{part_order, part_is}
use Rattle.leopard.proofs.input.tuples_at.Goals as goal

pub slice_bounds-result-count : goal.slice_bounds-result-count
slice_bounds-result-count c =
    let start = c.place_from-start.ensures in
    let end = c.place_past-end.ensures in
    part_order c.args.tuples.now c.args.node.now _ _ (record { within_first = start.within; within = end.within; before = start.before; from = start.after; upto = end.before; past = end.after })

pub slice_bounds-result-start : goal.slice_bounds-result-start
slice_bounds-result-start c = slice_bounds-result-count c

pub returns : goal.returns
returns c =
    let start = c.place_from-start.ensures in
    let end = c.place_past-end.ensures in
    part_is c.args.tuples.now c.args.node.now _ _ (record { within_first = start.within; within = end.within; before = start.before; from = start.after; upto = end.before; past = end.after })

use Rattle.strata.proofs.Orders.{part_order, part_is, part_from}
use Rattle.strata.proofs.order.steps_from.Goals as goal

pub slice_bounds-result-count : goal.slice_bounds-result-count
slice_bounds-result-count c =
    let start = c.place_from-start.ensures in
    let end = c.place_past-end.ensures in
    part_order c.args.steps.now c.args.from _ _ start.within (part_from _ _ _ _ end.within start.before start.after end.before end.after)

pub slice_bounds-result-start : goal.slice_bounds-result-start
slice_bounds-result-start c = slice_bounds-result-count c

pub returns : goal.returns
returns c =
    let start = c.place_from-start.ensures in
    let end = c.place_past-end.ensures in
    let part = part_from c.args.steps.now c.args.from _ _ end.within start.before start.after end.before end.after in
    part_is c.args.steps.now c.args.from _ _ (part_order _ _ _ _ start.within part) part

use Rattle.std.proofs.Common.{subst}
use Rattle.strata.specs.inside.Search.{IsClosing}
use Rattle.strata.proofs.Ways.{closing_reached, closed_cycle, none_back_to, none_subtracted}
use Rattle.strata.proofs.cycle.cycle_to.Goals as goal

pub returns-in_default-clause-none : goal.returns-in_default-clause-none
returns-in_default-clause-none c =
    let none = rw c.deref.ensures.value at c.in_default.ensures.none in
    none_back_to c.args.steps.now c.args.to _ _ c.in_ok-search.ensures.reached c.in_ok-search.ensures.marked none

pub returns-clause-found : goal.returns-clause-found
returns-clause-found c =
    let closing = rw c.deref.ensures.value at c.in-Some.ensures.found in
    let place = rw c.deref-2.ensures.value at c.place_of-place.ensures.place in
    let node = rw c.deref-2.ensures.value at c.place_of-place.ensures.node in
    let way = rw c.deref-3.ensures.value at c.in_ok-cycle.ensures in
    rw c.in_ok-insert.ensures.items
    (closed_cycle c.args.steps.now c.args.to _ _ c.in-Some.step _ c.in_ok-cycle.cycle.items c.in_ok-search.ensures.reached closing place node (way c.args.steps.now c.args.to c.in_ok-search.ensures.reached.trail))

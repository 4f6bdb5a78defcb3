use Rattle.std.proofs.Common.{arith, ◌≡◌, ◌<◌, length, get_or, false, subst}
use Rattle.std.proofs.lemmas.List.{get_or_default}
use Rattle.strata.specs.declared.search.Seen.{Seen}
use Rattle.strata.specs.inside.Search.{IsWay}
use Rattle.strata.proofs.Ways.{way_none, way_more}
use Rattle.strata.proofs.cycle.way_to.Goals as goal

pub loop-at-init : goal.loop-at-init
loop-at-init c = (c.requires.place, λ steps start trail. rw c.new-way.ensures.items (way_none steps start c.args.seen.now trail c.args.place))

pub loop-at-preserved : goal.loop-at-preserved
loop-at-preserved c =
    let none : Seen = record { node = 0; by = 0; subtracted = false } in
    let x = get_or c.args.seen.now c.loop-at.at none in
    let y = get_or c.args.seen.now x.by none in
    let lt : c.loop-at.at < length c.args.seen.now = c.loop-at.invariant.0 in
    let pos : 0 < c.loop-at.at = omega arith in
    let low : x.by < length c.args.seen.now = omega (arith, c.requires.earlier c.loop-at.at none pos lt, lt) in
    (low, λ steps start trail. rw c.in_ok-insert.ensures.items (way_more steps start c.args.seen.now trail c.loop-at.at c.args.place c.loop-at.way.items x y pos lt (get_or_default c.args.seen.now c.loop-at.at none x lt) (get_or_default c.args.seen.now x.by none y low) (c.loop-at.invariant.1 steps start trail)))

pub returns : goal.returns
returns c = λ steps start trail.
    let end : c.loop-at.at ≡ 0 = omega arith in
    subst (λ i. IsWay steps start c.args.seen.now i c.args.place c.loop-at.way.items) end (c.loop-at.invariant.1 steps start trail)

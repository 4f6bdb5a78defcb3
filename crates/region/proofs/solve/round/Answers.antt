use Rattle.std.proofs.Common.{◌≡◌, ◌<◌, ◌-◌, ◌+◌, get_or, length, ap, ◌∙◌, subst, arith}
use Rattle.std.specs.List.Sorted.{IsStrictlyIncreasing}
use Rattle.least_sets.specs.World.{has}
use Rattle.region.specs.Steps.{is_to_come}
use Rattle.region.specs.Tables.{over, listed}
use Rattle.region.proofs.Listing.{place_same}
use Rattle.region.proofs.Round.{RoundAt, left_of, round_none, round_more, round_end, round_less, waiting_same}
use Rattle.region.proofs.solve.round.Goals as goal

pub loop-left-init : goal.loop-left-init
loop-left-init c = round_none c.args.told.now c.args.level c.args.waiting.now _ (over c.args.fresh.now c.args.kept.now.rows) (has c.new-next.result.items)
    (ap length c.as_slice-places.ensures.ids) (λ n. ap (λ xs. has xs n) c.new-next.ensures.items) c.requires.waits

pub loop-left-preserved : goal.loop-left-preserved
loop-left-preserved c =
    let one : c.loop-left.left ≡ (c.loop-left.left - 1) + 1 = omega arith in
    let le = c.loop-left.invariant.within in
    let lt : c.loop-left.left - 1 < length c.args.waiting.now = omega (arith, le) in
    let len : length c.as_slice-places.result.now ≡ length c.args.waiting.now = ap length c.as_slice-places.ensures.ids in
    let lt_slice : c.loop-left.left - 1 < length c.as_slice-places.result.now = omega (arith, lt, len) in
    let up : IsStrictlyIncreasing c.args.waiting.now = subst IsStrictlyIncreasing c.as_slice-places.ensures.ids c.as_slice-places.ensures.ascending in
    let place = get_or c.as_slice-places.result.now (c.loop-left.left - 1) 0 in
    let here = place_same c.as_slice-places.result.now c.args.waiting.now (c.loop-left.left - 1) 0 c.as_slice-places.ensures.ids lt_slice in
    round_more c.args.told.now c.args.level c.args.waiting.now (c.loop-left.left - 1) place (listed c.args.back.now) (is_to_come c.args.waiting.now place)
    (over c.args.fresh.now c.args.kept.now.rows) (over c.loop-left.fresh c.args.kept.now.rows) (over c.look.new.fresh c.args.kept.now.rows)
    (has c.loop-left.next.items) (has c.look.new.next.items)
    here (left_of c.args.waiting.now (c.loop-left.left - 1) place up lt here) c.requires.named
    (subst (λ k. RoundAt c.args.told.now c.args.level c.args.waiting.now k (over c.args.fresh.now c.args.kept.now.rows) (over c.loop-left.fresh c.args.kept.now.rows) (has c.loop-left.next.items)) one c.loop-left.invariant)
    c.in_ok-look.ensures

pub returns-clause-steps : goal.returns-clause-steps
returns-clause-steps c = c.loop-left.invariant.steps

pub returns-clause-waits : goal.returns-clause-waits
returns-clause-waits c =
    let zero_left : c.loop-left.left ≡ 0 = omega arith in
    waiting_same c.args.told.now c.args.level (over c.loop-left.fresh c.args.kept.now.rows) (has c.loop-left.next.items) (has c.of.result)
    (λ n h. c.of.ensures.members n ∙ h)
    (round_end c.args.told.now c.args.level c.args.waiting.now (over c.args.fresh.now c.args.kept.now.rows) (over c.loop-left.fresh c.args.kept.now.rows) (has c.loop-left.next.items)
    (subst (λ k. RoundAt c.args.told.now c.args.level c.args.waiting.now k (over c.args.fresh.now c.args.kept.now.rows) (over c.loop-left.fresh c.args.kept.now.rows) (has c.loop-left.next.items)) zero_left c.loop-left.invariant))

pub returns-clause-less : goal.returns-clause-less
returns-clause-less c = round_less c.loop-left.invariant (λ n. c.of.ensures.members n)

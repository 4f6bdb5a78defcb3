use Rattle.std.proofs.Common.{arith, false, get_or, ap, sym, subst, ◌∙◌, ◌≡◌, ◌<◌, ◌≤◌, length}
use Rattle.std.specs.Prelude.{All}
use Rattle.std.proofs.lemmas.List.{get_or_default}
use Rattle.strata.specs.declared.graph.Step.{Step}
use Rattle.strata.specs.declared.search.Seen.{Seen}
use Rattle.strata.proofs.Spreads.{search_one, search_more, search_falls, search_done, next_in_range, next_leave}
use Rattle.strata.proofs.search.reached.Goals as goal

pub loop-at-init : goal.loop-at-init
loop-at-init c =
    let x : Seen = record { node = c.args.start; by = 0; subtracted = false } in
    rw (c.in_ok-push.ensures.items, c.new-seen.ensures.items, c.in_ok-marks_at.ensures) (search_one c.args.steps.now c.args.count x c.requires.start)

pub spread-requires-clause-in_range : goal.spread-requires-clause-in_range
spread-requires-clause-in_range c = subst (λ n. All (λ (s : Step). s.to < n) c.steps_from-next.result.now) (sym c.loop-at.invariant.long) (next_in_range _ _ _ _ c.steps_from-next.ensures c.requires.in_range)

pub spread-requires-clause-leave : goal.spread-requires-clause-leave
spread-requires-clause-leave c =
    let lt : c.loop-at.at < length c.loop-at.search.seen.items = omega (arith, c.loop-at-test.true, c.len.ensures) in
    next_leave c.args.steps.now c.steps_from-next.result.now c.loop-at.search.seen.items c.loop-at.at _ (λ d. ap (λ (z : Seen). z.node) (get_or_default c.loop-at.search.seen.items c.loop-at.at d c.index.result.now lt ∙ sym c.index.ensures)) c.steps_from-next.ensures

pub loop-at-preserved : goal.loop-at-preserved
loop-at-preserved c =
    let lt : c.loop-at.at < length c.loop-at.search.seen.items = omega (arith, c.loop-at-test.true, c.len.ensures) in
    search_more _ _ _ _ _ _ _ _ c.steps_from-next.result.now c.index.result.now.node lt (λ d. ap (λ (z : Seen). z.node) (get_or_default c.loop-at.search.seen.items c.loop-at.at d c.index.result.now lt ∙ sym c.index.ensures)) c.steps_from-next.ensures c.in_ok-spread.ensures c.loop-at.invariant

pub loop-at-smaller : goal.loop-at-smaller
loop-at-smaller c =
    let lt : c.loop-at.at < length c.loop-at.search.seen.items = omega (arith, c.loop-at-test.true, c.len.ensures) in
    search_falls _ _ _ _ c.steps_from-next.result.now (length c.steps_from-next.result.now) c.loop-at.at lt c.in_ok-spread.ensures

pub returns-clause-reached : goal.returns-clause-reached
returns-clause-reached c =
    let end : length c.loop-at.search.seen.items ≤ c.loop-at.at = omega (arith, c.loop-at-test.false, c.len.ensures) in
    search_done _ _ _ _ _ _ end c.loop-at.invariant

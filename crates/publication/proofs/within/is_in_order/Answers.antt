use Rattle.std.proofs.Common.{◌≡◌, ◌-◌, ◌+◌, ◌<◌, length, drop, ap, sym, ◌∙◌, arith}
use Rattle.std.specs.Prelude.{◌&&◌}
use Rattle.rows.specs.Ordered.{is_in_order}
use Rattle.publication.proofs.Limits.{one_event_on, last_in_order}
use Rattle.publication.proofs.within.is_in_order.Goals as goal

pub loop-i-preserved : goal.loop-i-preserved
loop-i-preserved c =
    let i = c.loop-i.i in
    let es = c.args.events.now in
    let within : i < length es = omega (arith, c.loop-i-test.true, c.len-i-end.ensures.len) in
    let on = one_event_on i es c.event-last.result c.event.result c.tuple_ref-in-loop-i.result.now c.tuple_ref.result.now c.is_later.result (omega (arith, c.loop-i.auto.i)) within c.event-last.ensures c.event.ensures c.tuple_ref-in-loop-i.ensures c.tuple_ref.ensures c.is_later.ensures in
    let next : i + 1 - 1 ≡ i = omega arith in
    ap (λ k. is_in_order (drop k es)) next ∙ ap (λ b. b && is_in_order (drop i es)) (sym c.if-not-is_later.false) ∙ sym on ∙ c.loop-i.invariant

pub returns-then-not-is_later : goal.returns-then-not-is_later
returns-then-not-is_later c =
    let i = c.loop-i.i in
    let es = c.args.events.now in
    let within : i < length es = omega (arith, c.loop-i-test.true, c.len-i-end.ensures.len) in
    let on = one_event_on i es c.event-last.result c.event.result c.tuple_ref-in-loop-i.result.now c.tuple_ref.result.now c.is_later.result (omega (arith, c.loop-i.auto.i)) within c.event-last.ensures c.event.ensures c.tuple_ref-in-loop-i.ensures c.tuple_ref.ensures c.is_later.ensures in
    ap (λ b. b && is_in_order (drop i es)) (sym c.if-not-is_later.true) ∙ sym on ∙ c.loop-i.invariant

pub returns : goal.returns
returns c = sym (last_in_order (c.loop-i.i - 1) c.args.events.now (omega (arith, c.loop-i.auto.i, c.loop-i-test.false, c.len-i-end.ensures.len))) ∙ c.loop-i.invariant

use Rattle.std.proofs.Common.{◌∙◌, arith, sym, subst}
use Rattle.published.specs.Judged.{AreJudged}
use Rattle.published.proofs.Leading.{entered_judged, made}
use Rattle.published.proofs.hand.hand_over.Goals as goal

pub loop-entered-preserved : goal.loop-entered-preserved
loop-entered-preserved g c =
    let h = c.loop-entered.invariant in
    let r = c.retry.ensures in
    let some = c.in-Some.ensures in
    record {
      leads = made c.args.book.now c.loop-entered.entered c.enter_next.new.entered c.loop-entered.publisher c.retry.new.publisher c.loop-entered.stuck c.retry.new.stuck c.in-Some.post h.leads r.order r.same (r.none c.loop-entered-test.true) some.some;
      judged = subst AreJudged (sym some.posted) h.judged;
      posted = some.posted ∙ h.posted;
      fewer = omega (arith, some.len, h.fewer);
      capacity = some.capacity ∙ h.capacity;
      published = r.same.0 ∙ h.published;
    }

pub enter_next-requires-clause-entered : goal.enter_next-requires-clause-entered
enter_next-requires-clause-entered g c =
    let h = c.loop-entered.invariant in
    entered_judged c.args.book.now c.loop-entered.entered c.loop-entered.publisher c.loop-entered.stuck h.leads c.loop-entered.backlog.items h.judged

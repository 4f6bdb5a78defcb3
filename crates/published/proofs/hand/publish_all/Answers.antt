use Rattle.std.proofs.Common.{sym, subst}
use Rattle.published.specs.Copies.{Copy}
use Rattle.published.specs.Known.{Begins}
use Rattle.published.specs.Judged.{AreJudged}
use Rattle.published.proofs.Leading.{entered_judged, waiting_judged, ok_leads, ok_later, shown_where_done, not_shown_where_left, none_left}
use Rattle.published.proofs.hand.publish_all.Goals as goal

pub publish-requires : goal.publish-requires
publish-requires g c =
    let h = c.hand_over.new in
    waiting_judged c.args.book.now h.entered h.publisher h.stuck c.hand_over.ensures.leads h.backlog.items (subst AreJudged (sym c.hand_over.ensures.posted) c.requires.judged)

pub returns-then-not-is_waiting-clause-all : goal.returns-then-not-is_waiting-clause-all
returns-then-not-is_waiting-clause-all g c =
    let h = c.hand_over.new in
    shown_where_done c.args.book.now h.entered h.publisher h.stuck h.backlog.items c.hand_over.ensures.leads c.is_done.result (none_left c.is_waiting.result h.publisher.waiting c.if-not-is_waiting.true c.is_waiting.ensures) c.is_done.ensures

pub returns-in-Ok-clause-leads : goal.returns-in-Ok-clause-leads
returns-in-Ok-clause-leads g c =
    let h = c.hand_over.new in
    let ok = c.in-Ok.ensures.ok in
    let judged = entered_judged c.args.book.now h.entered h.publisher h.stuck c.hand_over.ensures.leads h.backlog.items (subst AreJudged (sym c.hand_over.ensures.posted) c.requires.judged) in
    ok_leads c.args.book.now h.entered h.publisher c.publish.new.publisher h.stuck c.hand_over.ensures.leads judged ok.0 ok.1 ok.2

pub returns-in-Ok-clause-later : goal.returns-in-Ok-clause-later
returns-in-Ok-clause-later g c =
    subst (λ (x : Copy). Begins x.prefix c.publish.new.publisher.published.prefix) c.hand_over.ensures.same
    (ok_later c.args.book.now c.hand_over.new.entered c.hand_over.new.publisher c.publish.new.publisher c.hand_over.new.stuck c.hand_over.ensures.leads c.in-Ok.ensures.ok.0)

pub returns-in-Ok-clause-all : goal.returns-in-Ok-clause-all
returns-in-Ok-clause-all g c =
    let h = c.hand_over.new in
    let ok = c.in-Ok.ensures.ok in
    let judged = entered_judged c.args.book.now h.entered h.publisher h.stuck c.hand_over.ensures.leads h.backlog.items (subst AreJudged (sym c.hand_over.ensures.posted) c.requires.judged) in
    let leads = ok_leads c.args.book.now h.entered h.publisher c.publish.new.publisher h.stuck c.hand_over.ensures.leads judged ok.0 ok.1 ok.2 in
    shown_where_done c.args.book.now h.entered c.publish.new.publisher h.stuck h.backlog.items leads c.is_done-in-Ok.result ok.1 c.is_done-in-Ok.ensures

pub returns-in-Err-clause-all : goal.returns-in-Err-clause-all
returns-in-Err-clause-all g c =
    let h = c.hand_over.new in
    not_shown_where_left c.args.book.now h.entered h.publisher h.stuck h.backlog.items c.hand_over.ensures.leads c.publish.new.publisher c.is_waiting.result c.in-Err.ensures.err c.if-not-is_waiting.false c.is_waiting.ensures

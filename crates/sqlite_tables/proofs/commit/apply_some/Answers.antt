use Rattle.std.proofs.Common.{◌≡◌, ◌+◌, ◌-◌, ◌*◌, inl, inr, List, [], ◌∷◌, length, sym, ap, arith}
use Rattle.sqlite_tables.specs.declared.stored.StoredEvent.{StoredEvent}
use Rattle.sqlite_tables.specs.Numbered.{span_rowid}
use Rattle.sqlite_tables.specs.Steps.{after_event, after_events}
use Rattle.sqlite_tables.specs.Caused.{spans_of}
use Rattle.sqlite_tables.specs.inside.Together.{AllBegin, AreTogether, CanBeginAll, with_spans}
use Rattle.sqlite_tables.proofs.Items.{one_item}
use Rattle.sqlite_tables.proofs.Taking.{begin_all, can_apply}
use Rattle.sqlite_tables.proofs.Whole.{changes_as, changes_up, refuses}
use Rattle.sqlite_tables.proofs.commit.apply_some.Goals as goal

-- more than one of them begin spans
eight_begin : (events : List StoredEvent) → AreTogether events → ¬ (length events ≡ 1) → (length events ≡ 8) × AllBegin events
eight_begin events (inl one) more = absurd (more one)
eight_begin events (inr eight) more = eight

pub returns-in_ok-apply_event-clause-done : goal.returns-in_ok-apply_event-clause-done
returns-in_ok-apply_event-clause-done g c =
    let events = c.args.events.now in
    let rev = c.args.rev in
    let at = c.args.at in
    let event : StoredEvent = c.index-events-0.result in
    let alone : events ≡ event ∷ [] = one_item events event (omega (arith, c.if-events-eq1.true)) (omega (arith, c.if-events-eq1.true)) c.index-events-0.is in
    changes_as g.S.Store c.args.tx.now.conn c.apply_event.new.tx.conn (after_event rev event) (after_events rev events) (256 * (rev - 1) + at + length events) (λ h. ap (λ (l : List StoredEvent). after_events rev l h) (sym alone))
    (changes_up g.S.Store c.args.tx.now.conn c.apply_event.new.tx.conn (after_event rev event) (span_rowid rev at) (256 * (rev - 1) + at + length events) (omega (arith, c.if-events-eq1.true)) c.in_ok-apply_event.ensures.done)

pub returns-in_ok-insert_spans-clause-done : goal.returns-in_ok-insert_spans-clause-done
returns-in_ok-insert_spans-clause-done g c =
    let events = c.args.events.now in
    let rev = c.args.rev in
    let at = c.args.at in
    let spans = with_spans (spans_of rev events) in
    let eight : (length events ≡ 8) × AllBegin events = eight_begin events c.requires.together c.if-events-eq1.false in
    changes_as g.S.Store c.args.tx.now.conn c.insert_spans.new.tx.conn spans (after_events rev events) (256 * (rev - 1) + at + length events) (λ h. begin_all rev events h eight.1)
    (changes_up g.S.Store c.args.tx.now.conn c.insert_spans.new.tx.conn spans (span_rowid rev at + 7) (256 * (rev - 1) + at + length events) (omega (arith, eight.0)) c.in_ok-insert_spans.ensures.done)

pub returns-in_err-apply_event-clause-caused : goal.returns-in_err-apply_event-clause-caused
returns-in_err-apply_event-clause-caused g c =
    let events = c.args.events.now in
    let rev = c.args.rev in
    let at = c.args.at in
    let event : StoredEvent = c.index-events-0.result in
    refuses g.S.Store c.args.tx.now.conn c.apply_event.new.tx.conn c.from_residual.result c.in_err-apply_event.field-0.0 (CanBeginAll (spans_of rev events) rev (span_rowid rev at)) c.from_residual.ensures.1
    (λ inside clean other ready can. c.in_err-apply_event.ensures.caused inside clean other ready (can_apply events rev at event _ c.if-events-eq1.true c.index-events-0.is can))

use Rattle.std.proofs.Common.{◌≡◌, ◌+◌, ◌-◌, ◌*◌, List, length, min, take, drop, sym, ap, subst, ◌∙◌, arith}
use Rattle.std.proofs.Math.Seq.{take-length}
use Rattle.std.proofs.lemmas.List.{length-drop, length-take, take_rest}
use Rattle.std.proofs.lemmas.List.Sums.{fold-append}
use Rattle.sqlite.specs.Held.{state}
use Rattle.sqlite_tables.specs.Tables.{Contents}
use Rattle.sqlite_tables.specs.declared.stored.StoredEvent.{StoredEvent}
use Rattle.sqlite_tables.specs.Numbered.{span_rowid}
use Rattle.sqlite_tables.specs.Steps.{after_event, after_events}
use Rattle.sqlite_tables.specs.Caused.{CanTake, spans_of}
use Rattle.sqlite_tables.specs.inside.Together.{AreTogether, CanBeginAll}
use Rattle.sqlite_tables.proofs.Inside.{quiet_then}
use Rattle.sqlite_tables.proofs.Lists.{part, part_between, part_of_rest, take_part}
use Rattle.sqlite_tables.proofs.Taking.{can_begin_all}
use Rattle.sqlite_tables.proofs.Whole.{caused_then, changes_as, changes_then, changes_up, refuses}
use Rattle.sqlite_tables.proofs.commit.apply_all.Goals as goal

pub apply_some-requires-clause-together : goal.apply_some-requires-clause-together
apply_some-requires-clause-together g c =
    let events = c.args.events.now in
    let at = c.loop-at.at in
    let count = c.together-count.result in
    subst AreTogether (part_of_rest at count events ∙ sym (part_between at count events)) c.together-count.ensures.together

pub returns-in_err-apply_some-clause-caused : goal.returns-in_err-apply_some-clause-caused
returns-in_err-apply_some-clause-caused g c =
    let start = c.args.tx.now.conn in
    let mid = c.loop-at.tx.conn in
    let last = c.apply_some.new.tx.conn in
    let e = c.in_err-apply_some.field-0.0 in
    let events = c.args.events.now in
    let rev = c.args.rev in
    let at = c.loop-at.at in
    let count = c.together-count.result in
    let some = take (at + count - at) (drop at events) in
    refuses g.S.Store start last c.from_residual.result e (CanTake events rev) c.from_residual.ensures.1
    (caused_then g.S.Store start mid last e (CanTake events rev) (CanBeginAll (spans_of rev some) rev (span_rowid rev at)) c.loop-at.invariant.quiet c.apply_some.ensures.quiet
    (λ clean.
    let did = c.loop-at.invariant.done clean in (
      did.goes_on,
      λ can. subst (λ (l : List StoredEvent). CanBeginAll (spans_of rev l) rev (span_rowid rev at) (state g.S.Store mid.now).now) (sym (part_between at count events))
          (can_begin_all events rev at count (state g.S.Store start.now).now (state g.S.Store mid.now).now c.requires.positive can did.does),
    ))
    c.in_err-apply_some.ensures.caused)

pub loop-at-preserved : goal.loop-at-preserved
loop-at-preserved g c =
    let start = c.args.tx.now.conn in
    let mid = c.loop-at.tx.conn in
    let end = c.apply_some.new.tx.conn in
    let events = c.args.events.now in
    let at = c.loop-at.at in
    let rev = c.args.rev in
    let count = c.together-count.result in
    let some = take (at + count - at) (drop at events) in
    let so_far = 256 * (rev - 1) + at in
    let now = 256 * (rev - 1) + (at + count) in
    let rest : length (take (length events - at) (drop at events)) ≡ length events - at = ap length (take_rest events at) ∙ length-drop at events in
    let few : length some ≡ min (at + count - at) (length (drop at events)) = length-take (at + count - at) (drop at events) in
    record {
      within = omega (arith, c.together-count.ensures.within, rest, c.loop-at-test.true);
      same = c.apply_some.ensures.same_reference ∙ c.loop-at.invariant.same;
      done = changes_as g.S.Store start end (λ h. after_events rev some (after_events rev (take at events) h)) (after_events rev (take (at + count) events)) now
          (λ h. let so : Contents = after_events rev (take at events) h in
          ap (λ (l : List StoredEvent). after_events rev l so) (part_between at count events)
          ∙ (sym (fold-append (λ (x : Contents) (e : StoredEvent). after_event rev e x) h (take at events) (part at count events)) ∙ ap (λ (l : List StoredEvent). after_events rev l h) (sym (take_part at count events))))
          (changes_then g.S.Store start mid end c.apply_some.ensures.quiet (after_events rev (take at events)) (after_events rev some) so_far (so_far + length some) now (omega arith) (omega (arith, few)) c.loop-at.invariant.done c.in_ok-apply_some.ensures.done);
      quiet = quiet_then g.S.Store start mid end c.loop-at.invariant.quiet c.apply_some.ensures.quiet;
    }

pub returns-clause-done : goal.returns-clause-done
returns-clause-done g c =
    let events = c.args.events.now in
    let at = c.loop-at.at in
    let rev = c.args.rev in
    let here : at ≡ length events = omega (arith, c.loop-at.invariant.within, c.loop-at-test.false) in
    let all : take at events ≡ events = ap (λ n. take n events) here ∙ take-length events in
    changes_as g.S.Store c.args.tx.now.conn c.loop-at.tx.conn (after_events rev (take at events)) (after_events rev events) (256 * rev) (λ h. ap (λ done. after_events rev done h) all)
    (changes_up g.S.Store c.args.tx.now.conn c.loop-at.tx.conn (after_events rev (take at events)) (256 * (rev - 1) + at) (256 * rev) (omega (arith, here, c.requires.few, c.requires.positive)) c.loop-at.invariant.done)

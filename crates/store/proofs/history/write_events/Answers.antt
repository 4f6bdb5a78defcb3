use Rattle.std.proofs.Common.{map, ap, ◌∙◌, ◌*◌, ◌≢◌, arith}
use Rattle.sqlite.specs.Held.{state}
use Rattle.sqlite.specs.declared.error.Error.TheVariants.{SqliteFailure}
use Rattle.sqlite.specs.declared.error.ErrorCode.TheVariants.{OutOfMemory}
use Rattle.names.specs.declared.commit.Commit.TheVariants as kinds
use Rattle.names.specs.Spelling.{IsTuple}
use Rattle.rows.specs.Retained.{newest_of, with_commit}
use Rattle.sqlite_tables.specs.Steps.{after_write, MayStore}
use Rattle.store.specs.inside.EventTexts.{event_texts_in}
use Rattle.tables.specs.declared.change.TableChange.TheVariants.{Commit}
use Rattle.store.specs.History.{KeepsHistory, HoldChanged}
use Rattle.store.proofs.Picking.{all_in}
use Rattle.store.proofs.Causes.{few_events}
use Rattle.store.proofs.Beginning.{small_rev}
use Rattle.store.proofs.Fitting.{same_length}
use Rattle.store.proofs.Leading.{events_lead, can_take}
use Rattle.store.proofs.Leaving.{clean_before, survives_quiet, survives_same, holds_stored, leaves_changed, keeps_undone, keeps_twice, failed_in_two}
use Rattle.store.proofs.history.write_events.Goals as goal

pub write-requires-clause-small : goal.write-requires-clause-small
write-requires-clause-small g c = (small_rev (KeepsHistory g.S.Store c.args.conn.now) c.args.rev (kinds.Tuples c.args.events.now) c.args.puts c.requires.next).1

pub write-requires-clause-positive : goal.write-requires-clause-positive
write-requires-clause-positive g c = (small_rev (KeepsHistory g.S.Store c.args.conn.now) c.args.rev (kinds.Tuples c.args.events.now) c.args.puts c.requires.next).0

pub write-requires-clause-few : goal.write-requires-clause-few
write-requires-clause-few g c =
    let next = c.requires.next in
    let few = few_events (newest_of next.0) c.args.events.now next.2.0 in
    let same = same_length c.args.puts c.as_slice.result.now c.args.events.now (ap (map event_texts_in) c.as_slice.ensures.value ∙ c.in-Ok.ensures.texts) in
    omega (arith, few, same)

pub returns-in_default-clause-undone : goal.returns-in_default-clause-undone
returns-in_default-clause-undone g c = λ r keeps. keeps

pub returns-in_default-clause-crash : goal.returns-in_default-clause-crash
returns-in_default-clause-crash g c = survives_same (state g.S.Store c.args.conn.now) (HoldChanged g.S.Store c.args.conn.now (Commit c.args.rev (kinds.Tuples c.args.events.now) c.args.puts))

pub returns-in_default-write-clause-done : goal.returns-in_default-write-clause-done
returns-in_default-write-clause-done g c = λ r keeps next.
    let xs = c.as_slice.result.now in
    let texts_is = ap (map event_texts_in) c.as_slice.ensures.value ∙ c.in-Ok.ensures.texts in
    let f = after_write c.args.rev xs in
    holds_stored g.S.Store c.args.conn.now c.write.new.conn r (with_commit r (kinds.Tuples c.args.events.now)) f (256 * c.args.rev) (MayStore (state g.S.Store c.args.conn.now) f (256 * c.args.rev))
    keeps c.write.ensures.crash c.in_default-write.ensures.done (events_lead r c.args.rev c.args.puts xs c.args.events.now next texts_is (all_in (λ e. IsTuple e.tuple) c.args.events.now c.in-Ok.ensures.spelled))

pub returns-in_default-write-clause-crash : goal.returns-in_default-write-clause-crash
returns-in_default-write-clause-crash g c =
    let xs = c.as_slice.result.now in
    let texts_is = ap (map event_texts_in) c.as_slice.ensures.value ∙ c.in-Ok.ensures.texts in
    leaves_changed g.S.Store c.args.conn.now c.write.new.conn (Commit c.args.rev (kinds.Tuples c.args.events.now) c.args.puts) (after_write c.args.rev xs) (256 * c.args.rev) c.write.ensures.crash
    (λ r next. events_lead r c.args.rev c.args.puts xs c.args.events.now next texts_is (all_in (λ e. IsTuple e.tuple) c.args.events.now c.in-Ok.ensures.spelled))

pub returns-in_default-write-clause-open : goal.returns-in_default-write-clause-open
returns-in_default-write-clause-open g c = λ clean. (c.in_default-write.ensures.done clean).is_open

pub returns-clause-undone : goal.returns-clause-undone
returns-clause-undone g c =
    let may = MayStore (state g.S.Store c.args.conn.now) (after_write c.args.rev c.as_slice.result.now) (256 * c.args.rev) in
    keeps_twice g.S.Store c.args.conn.now c.write.new.conn c.why.new.conn (keeps_undone g.S.Store c.args.conn.now c.write.new.conn may c.write.ensures.crash c.in-Err.ensures.undone)
    (keeps_undone g.S.Store c.write.new.conn c.why.new.conn (λ _. ⊥) c.why.ensures.quiet c.why.ensures.undone)

pub returns-clause-crash : goal.returns-clause-crash
returns-clause-crash g c =
    let xs = c.as_slice.result.now in
    let texts_is = ap (map event_texts_in) c.as_slice.ensures.value ∙ c.in-Ok.ensures.texts in
    let next_trees = HoldChanged g.S.Store c.args.conn.now (Commit c.args.rev (kinds.Tuples c.args.events.now) c.args.puts) in
    survives_quiet (state g.S.Store c.args.conn.now) (state g.S.Store c.write.new.conn) (state g.S.Store c.why.new.conn) next_trees
    (leaves_changed g.S.Store c.args.conn.now c.write.new.conn (Commit c.args.rev (kinds.Tuples c.args.events.now) c.args.puts) (after_write c.args.rev xs) (256 * c.args.rev) c.write.ensures.crash
    (λ r next. events_lead r c.args.rev c.args.puts xs c.args.events.now next texts_is (all_in (λ e. IsTuple e.tuple) c.args.events.now c.in-Ok.ensures.spelled)))
    c.why.ensures.quiet

pub returns-clause-caused : goal.returns-clause-caused
returns-clause-caused g c = λ is was clean.
    let old = state g.S.Store c.args.conn.now in
    let mid = state g.S.Store c.write.new.conn in
    let new = state g.S.Store c.why.new.conn in
    let xs = c.as_slice.result.now in
    let texts_is = ap (map event_texts_in) c.as_slice.ensures.value ∙ c.in-Ok.ensures.texts in
    let may = MayStore old (after_write c.args.rev xs) (256 * c.args.rev) in
    let next = c.requires.next in
    let first = clean_before old mid may c.write.ensures.crash (clean_before mid new (λ _. ⊥) c.why.ensures.quiet clean) in
    let k = next.1 first (was first) in
    failed_in_two old mid new (c.in-Err.error ≢ SqliteFailure OutOfMemory) may c.write.ensures.crash c.why.ensures.quiet
    (λ calm other. c.in-Err.ensures.caused calm other (record { is_open = was first; unlimited = c.requires.unlimited })
    (can_take old next.0 c.args.rev c.args.puts xs c.args.events.now k next.2 texts_is (all_in (λ e. IsTuple e.tuple) c.args.events.now c.in-Ok.ensures.spelled)))
    (c.why.ensures.caused (cc)) (was first) clean

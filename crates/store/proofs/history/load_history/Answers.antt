use Rattle.std.proofs.Common.{◌≡◌, ◌≢◌, ◌≤◌, ◌*◌, sym, subst, ap}
use Rattle.std.proofs.lemmas.Result.{IfOk-weaker}
use Rattle.sqlite.specs.Tree.{Trees}
use Rattle.sqlite.specs.Effect.{Database}
use Rattle.sqlite.specs.Held.{state}
use Rattle.sqlite.specs.declared.error.Error.TheVariants.{SqliteFailure}
use Rattle.sqlite.specs.declared.error.ErrorCode.TheVariants.{OutOfMemory}
use Rattle.rows.specs.Loads.{retained_of}
use Rattle.rows.specs.Retained.{newest}
use Rattle.sqlite_tables.specs.Numbered.{AreNumberedTo}
use Rattle.sqlite_tables.specs.Tables.{Holds}
use Rattle.store.specs.Refused.{IsHistoryOf}
use Rattle.tables.specs.Device.{IsClean, IsOpen}
use Rattle.store.specs.History.{KeepsHistory, device_below}
use Rattle.store.proofs.Deserving.{if_both, on_ok}
use Rattle.store.proofs.Leading.{can_load}
use Rattle.store.proofs.Leaving.{clean_before, survives_quiet, numbered_more, committed_with, holds_now, keeps_same, keeps_stays, keeps_undone, keeps_twice, kept_same, kept_undone, undoes_settled, undoes_twice, failed_in_two, failed_or_none}
use Rattle.store.proofs.Once.{history_same}
use Rattle.store.proofs.history.load_history.Goals as goal

pub returns-clause-held : goal.returns-clause-held
returns-clause-held g c =
    if_both c.read.result (IsHistoryOf c.in-Ok.stored) (λ l. c.in-Ok.stored.last_rowid ≤ 256 * newest (retained_of l)) (λ l. KeepsHistory g.S.Store c.load.new.conn (retained_of l))
    (λ l is most clean is_open.
    let new = state g.S.Store c.load.new.conn in
    let f = c.in-Ok.ensures.found clean in
    let same = c.in-Ok.ensures.same clean f.1.schema_is in
    let now_is = same.0.now_is in
    let last = (c.in-Ok.ensures.last clean f.1.schema_is).numbered in
    committed_with new f.0 (retained_of l) (sym (c.see_settled-2.ensures.settled is_open)) (subst (λ (d : Database). Holds d f.0) (sym now_is) f.1) (c.see_settled-2.ensures.live is_open).0 (is f.0 f.2)
    (numbered_more c.in-Ok.stored.last_rowid (256 * newest (retained_of l)) new.now.trees most (subst (λ (t : Trees). AreNumberedTo c.in-Ok.stored.last_rowid t) (sym (ap (λ (d : Database). d.trees) now_is)) last)))
    c.read.ensures.is_history c.read.ensures.numbered

pub returns-clause-open : goal.returns-clause-open
returns-clause-open g c = on_ok c.read.result _ (λ clean. let f = c.in-Ok.ensures.found clean in (c.in-Ok.ensures.same clean f.1.schema_is).0.is_open)

pub returns-clause-same : goal.returns-clause-same
returns-clause-same g c = λ r keeps clean.
    let old = state g.S.Store c.args.conn.now in
    let new = state g.S.Store c.load.new.conn in
    let f = c.in-Ok.ensures.found clean in
    let same = c.in-Ok.ensures.same clean f.1.schema_is in
    let k = keeps (clean_before old new (λ _. ⊥) c.load.ensures.crash clean) same.0.was_open in
    let h = k.held.contents in
    let loads = c.in-Ok.ensures.held clean h (holds_now old r k) in
    IfOk-weaker c.read.result (IsHistoryOf c.in-Ok.stored) (λ l. retained_of l ≡ r) (λ l is. history_same h (retained_of l) r (is h loads) k.held.history) c.read.ensures.is_history

pub returns-clause-kept : goal.returns-clause-kept
returns-clause-kept g c = keeps_same g.S.Store c.args.conn.now c.load.new.conn (λ _. ⊥) c.load.ensures.crash (λ clean. let f = c.in-Ok.ensures.found clean in c.in-Ok.ensures.same clean f.1.schema_is)

pub returns-clause-only : goal.returns-clause-only
returns-clause-only g c = kept_same g.S.Store c.args.conn.now c.load.new.conn (λ clean. let f = c.in-Ok.ensures.found clean in c.in-Ok.ensures.same clean f.1.schema_is)

pub returns-clause-found : goal.returns-clause-found
returns-clause-found g c =
    let new = c.load.new.conn in
    let stands : IsOpen (device_below g.S.Store new) = λ clean. let f = c.in-Ok.ensures.found clean in (c.in-Ok.ensures.same clean f.1.schema_is).0.is_open in
    IfOk-weaker c.read.result (λ l. KeepsHistory g.S.Store new (retained_of l)) (λ l. IsClean (device_below g.S.Store new) → KeepsHistory g.S.Store c.args.conn.now (retained_of l))
    (λ l keeps clean. returns-clause-only g c (retained_of l) keeps clean stands) (returns-clause-held g c)

pub returns-clause-caused : goal.returns-clause-caused
returns-clause-caused g c = λ is was.
    let old = state g.S.Store c.args.conn.now in
    let new = state g.S.Store c.load.new.conn in
    failed_or_none old new (KeepsHistory g.S.Store c.args.conn.now) (λ clean r calm keeps.
    let f = c.in-Ok.ensures.found clean in
    let k = keeps calm (was calm) in
    let h = k.held.contents in
    let loads = c.in-Ok.ensures.held clean h (holds_now old r k) in
    absurd (c.read.ensures.fault is (c.in-Ok.ensures.ordered clean f.1.schema_is) h r loads k.held.history ((c.in-Ok.ensures.last clean f.1.schema_is).least (256 * newest r) k.held.numbered)))

pub returns-in-Err-clause-kept : goal.returns-in-Err-clause-kept
returns-in-Err-clause-kept g c =
    keeps_twice g.S.Store c.args.conn.now c.load.new.conn c.why.new.conn (keeps_stays g.S.Store c.args.conn.now c.load.new.conn (λ _. ⊥) c.load.ensures.crash c.load.ensures.undone)
    (keeps_undone g.S.Store c.load.new.conn c.why.new.conn (λ _. ⊥) c.why.ensures.quiet c.why.ensures.undone)

pub returns-in-Err-clause-only : goal.returns-in-Err-clause-only
returns-in-Err-clause-only g c =
    let before = undoes_settled g.S.Store c.args.conn.now c.load.new.conn c.see_settled.ensures.settled c.load.ensures.undone in
    kept_undone g.S.Store c.args.conn.now c.why.new.conn c.see_settled.ensures.settled
    (undoes_twice g.S.Store c.args.conn.now c.load.new.conn c.why.new.conn (λ _. ⊥) c.why.ensures.quiet before c.why.ensures.undone)

pub returns-in-Err-clause-quiet : goal.returns-in-Err-clause-quiet
returns-in-Err-clause-quiet g c = survives_quiet (state g.S.Store c.args.conn.now) (state g.S.Store c.load.new.conn) (state g.S.Store c.why.new.conn) (λ _. ⊥) c.load.ensures.crash c.why.ensures.quiet

pub returns-in-Err-clause-caused : goal.returns-in-Err-clause-caused
returns-in-Err-clause-caused g c = λ is was.
    let old = state g.S.Store c.args.conn.now in
    let new = state g.S.Store c.why.new.conn in
    failed_or_none old new (KeepsHistory g.S.Store c.args.conn.now) (λ clean r calm keeps.
    failed_in_two old (state g.S.Store c.load.new.conn) new (c.in-Err.error ≢ SqliteFailure OutOfMemory) (λ _. ⊥) c.load.ensures.crash c.why.ensures.quiet
    (λ mid other. c.in-Err.ensures.caused mid other (record { is_open = was calm; unlimited = c.requires.unlimited }) (can_load old r (keeps calm (was calm))))
    (c.why.ensures.caused (cc)) (was calm) clean)

use Rattle.std.proofs.Common.{◌≢◌}
use Rattle.sqlite.specs.Held.{state}
use Rattle.sqlite.specs.declared.error.Error.TheVariants.{SqliteFailure}
use Rattle.sqlite.specs.declared.error.ErrorCode.TheVariants.{OutOfMemory}
use Rattle.rows.specs.Retained as retained
use Rattle.sqlite_tables.specs.Steps.{after_trim, MayStore}
use Rattle.tables.specs.declared.change.TableChange.TheVariants.{Trim}
use Rattle.store.specs.History.{KeepsHistory, HoldChanged}
use Rattle.store.proofs.Leading.{trim_lead, small_trim, can_drop}
use Rattle.store.proofs.Leaving.{clean_before, survives_quiet, holds_stored, leaves_changed, keeps_undone, keeps_twice, failed_in_two}
use Rattle.store.proofs.history.trim_tables.Goals as goal

pub trim-requires-clause-small : goal.trim-requires-clause-small
trim-requires-clause-small g c = small_trim (KeepsHistory g.S.Store c.args.conn.now) c.args.floor c.args.first c.requires.can

pub returns-in_default-clause-done : goal.returns-in_default-clause-done
returns-in_default-clause-done g c = λ r keeps to.
    let f = after_trim c.args.floor c.args.first in
    holds_stored g.S.Store c.args.conn.now c.trim.new.conn r (retained.after_trim r c.args.floor) f 0 (MayStore (state g.S.Store c.args.conn.now) f 0) keeps c.trim.ensures.crash c.in_default.ensures.done
    (trim_lead r c.args.floor c.args.first to)

pub returns-in_default-clause-crash : goal.returns-in_default-clause-crash
returns-in_default-clause-crash g c =
    leaves_changed g.S.Store c.args.conn.now c.trim.new.conn (Trim c.args.floor c.args.first) (after_trim c.args.floor c.args.first) 0 c.trim.ensures.crash (λ r to. trim_lead r c.args.floor c.args.first to)

pub returns-in_default-clause-open : goal.returns-in_default-clause-open
returns-in_default-clause-open g c = λ clean. (c.in_default.ensures.done clean).is_open

pub returns-clause-undone : goal.returns-clause-undone
returns-clause-undone g c =
    let may = MayStore (state g.S.Store c.args.conn.now) (after_trim c.args.floor c.args.first) 0 in
    keeps_twice g.S.Store c.args.conn.now c.trim.new.conn c.why.new.conn (keeps_undone g.S.Store c.args.conn.now c.trim.new.conn may c.trim.ensures.crash c.in-Err.ensures.undone)
    (keeps_undone g.S.Store c.trim.new.conn c.why.new.conn (λ _. ⊥) c.why.ensures.quiet c.why.ensures.undone)

pub returns-clause-crash : goal.returns-clause-crash
returns-clause-crash g c =
    survives_quiet (state g.S.Store c.args.conn.now) (state g.S.Store c.trim.new.conn) (state g.S.Store c.why.new.conn) (HoldChanged g.S.Store c.args.conn.now (Trim c.args.floor c.args.first))
    (leaves_changed g.S.Store c.args.conn.now c.trim.new.conn (Trim c.args.floor c.args.first) (after_trim c.args.floor c.args.first) 0 c.trim.ensures.crash (λ r to. trim_lead r c.args.floor c.args.first to)) c.why.ensures.quiet

pub returns-clause-caused : goal.returns-clause-caused
returns-clause-caused g c = λ is was clean.
    let old = state g.S.Store c.args.conn.now in
    let mid = state g.S.Store c.trim.new.conn in
    let new = state g.S.Store c.why.new.conn in
    let may = MayStore old (after_trim c.args.floor c.args.first) 0 in
    let can = c.requires.can in
    let first = clean_before old mid may c.trim.ensures.crash (clean_before mid new (λ _. ⊥) c.why.ensures.quiet clean) in
    failed_in_two old mid new (c.in-Err.error ≢ SqliteFailure OutOfMemory) may c.trim.ensures.crash c.why.ensures.quiet
    (λ calm other. c.in-Err.ensures.caused calm other (record { is_open = was first; unlimited = c.requires.unlimited }) (can_drop old can.0 (can.1 first (was first)))) (c.why.ensures.caused (cc)) (was first) clean

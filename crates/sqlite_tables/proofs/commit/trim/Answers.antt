use Rattle.std.proofs.Common.{◌≡◌, codes, arith, rules}
use Rattle.sqlite.specs.Held.{state}
use Rattle.sqlite_tables.specs.Steps.{Alters, MayStore, after_drop, after_trim, with_entry}
use Rattle.sqlite_tables.specs.Caused.{CanDrop, CanSet}
use Rattle.sqlite_tables.proofs.Inside.{opened_then, quiet_then}
use Rattle.sqlite_tables.proofs.Taking.{can_raise}
use Rattle.sqlite_tables.proofs.Whole.{caused_then, changes_then, commit_caused, dropped_caused, has_stored, leaves_whole, may_store, on_err, refuses_whole, shows_whole, undone_whole}
use Rattle.sqlite_tables.proofs.commit.trim.Goals as goal

pub returns-clause-crash : goal.returns-clause-crash
returns-clause-crash g c =
    let tx = c.transaction-tx.result.conn in
    let mid = c.drop_past.new.tx.conn in
    let last = c.set_value.new.tx.conn in
    let end = c.commit.new.self.0 in
    let same : end ≡ c.conn-2-1.given.0 = search rules in
    let ran = changes_then g.S.Store tx mid last c.set_value.ensures.quiet (after_drop c.args.floor c.args.first) (with_entry (codes "floor") c.args.floor) 0 0 0 (omega arith) (omega arith) c.in_ok-drop_past.ensures.done c.in_ok-set_value.ensures.done in
    let quiet = quiet_then g.S.Store tx mid last c.drop_past.ensures.quiet c.set_value.ensures.quiet in
    let opened = opened_then g.S.Store tx mid last c.drop_past.ensures.quiet c.set_value.ensures.quiet c.in_ok-set_value.ensures.was_open in
    leaves_whole g.S.Store c.args.conn.now tx last end _ c.transaction-tx.ensures.begun same (Alters (after_trim c.args.floor c.args.first) 0) ran quiet opened (MayStore (state g.S.Store c.args.conn.now) (after_trim c.args.floor c.args.first) 0) (may_store (after_trim c.args.floor c.args.first) 0 (state g.S.Store c.args.conn.now)) c.commit.ensures.survives

pub returns-in_err-commit-clause-crash : goal.returns-in_err-commit-clause-crash
returns-in_err-commit-clause-crash g c =
    let tx = c.transaction-tx.result.conn in
    let mid = c.drop_past.new.tx.conn in
    let last = c.set_value.new.tx.conn in
    let end = c.commit.new.self.0 in
    let same : end ≡ c.conn-2-1.given.0 = search rules in
    let ran = changes_then g.S.Store tx mid last c.set_value.ensures.quiet (after_drop c.args.floor c.args.first) (with_entry (codes "floor") c.args.floor) 0 0 0 (omega arith) (omega arith) c.in_ok-drop_past.ensures.done c.in_ok-set_value.ensures.done in
    let quiet = quiet_then g.S.Store tx mid last c.drop_past.ensures.quiet c.set_value.ensures.quiet in
    let opened = opened_then g.S.Store tx mid last c.drop_past.ensures.quiet c.set_value.ensures.quiet c.in_ok-set_value.ensures.was_open in
    leaves_whole g.S.Store c.args.conn.now tx last end _ c.transaction-tx.ensures.begun same (Alters (after_trim c.args.floor c.args.first) 0) ran quiet opened (MayStore (state g.S.Store c.args.conn.now) (after_trim c.args.floor c.args.first) 0) (may_store (after_trim c.args.floor c.args.first) 0 (state g.S.Store c.args.conn.now)) c.commit.ensures.survives

pub returns-clause-done : goal.returns-clause-done
returns-clause-done g c clean =
    let tx = c.transaction-tx.result.conn in
    let mid = c.drop_past.new.tx.conn in
    let last = c.set_value.new.tx.conn in
    let end = c.commit.new.self.0 in
    let same : end ≡ c.conn-2-1.given.0 = search rules in
    let ran = changes_then g.S.Store tx mid last c.set_value.ensures.quiet (after_drop c.args.floor c.args.first) (with_entry (codes "floor") c.args.floor) 0 0 0 (omega arith) (omega arith) c.in_ok-drop_past.ensures.done c.in_ok-set_value.ensures.done in
    let quiet = quiet_then g.S.Store tx mid last c.drop_past.ensures.quiet c.set_value.ensures.quiet in
    let opened = opened_then g.S.Store tx mid last c.drop_past.ensures.quiet c.set_value.ensures.quiet c.in_ok-set_value.ensures.was_open in
    has_stored (after_trim c.args.floor c.args.first) 0 (state g.S.Store c.args.conn.now) _
    (shows_whole g.S.Store c.args.conn.now tx last end _ c.transaction-tx.ensures.begun same (Alters (after_trim c.args.floor c.args.first) 0) ran quiet opened c.commit.ensures.survives (λ closed. (c.in_ok-commit.ensures.ok closed).1) clean)

pub returns-in_err-commit-clause-undone : goal.returns-in_err-commit-clause-undone
returns-in_err-commit-clause-undone g c =
    let tx = c.transaction-tx.result.conn in
    let mid = c.drop_past.new.tx.conn in
    let last = c.set_value.new.tx.conn in
    let end = c.commit.new.self.0 in
    let same : end ≡ c.conn-2-1.given.0 = search rules in
    let ran = changes_then g.S.Store tx mid last c.set_value.ensures.quiet (after_drop c.args.floor c.args.first) (with_entry (codes "floor") c.args.floor) 0 0 0 (omega arith) (omega arith) c.in_ok-drop_past.ensures.done c.in_ok-set_value.ensures.done in
    let quiet = quiet_then g.S.Store tx mid last c.drop_past.ensures.quiet c.set_value.ensures.quiet in
    let opened = opened_then g.S.Store tx mid last c.drop_past.ensures.quiet c.set_value.ensures.quiet c.in_ok-set_value.ensures.was_open in
    on_err _ _ (undone_whole g.S.Store c.args.conn.now tx last end _ c.transaction-tx.ensures.begun same (Alters (after_trim c.args.floor c.args.first) 0) ran quiet opened _ c.commit.ensures.survives c.in_err-commit.ensures.err)

pub returns-in_err-commit-clause-caused : goal.returns-in_err-commit-clause-caused
returns-in_err-commit-clause-caused g c =
    let tx = c.transaction-tx.result.conn in
    let mid = c.drop_past.new.tx.conn in
    let last = c.set_value.new.tx.conn in
    let end = c.commit.new.self.0 in
    let same : end ≡ c.conn-2-1.given.0 = search rules in
    let ran = changes_then g.S.Store tx mid last c.set_value.ensures.quiet (after_drop c.args.floor c.args.first) (with_entry (codes "floor") c.args.floor) 0 0 0 (omega arith) (omega arith) c.in_ok-drop_past.ensures.done c.in_ok-set_value.ensures.done in
    let quiet = quiet_then g.S.Store tx mid last c.drop_past.ensures.quiet c.set_value.ensures.quiet in
    let opened = opened_then g.S.Store tx mid last c.drop_past.ensures.quiet c.set_value.ensures.quiet c.in_ok-set_value.ensures.was_open in
    refuses_whole g.S.Store c.args.conn.now c.conn-2-1.given.0 c.from_residual-in_err-commit.result c.in_err-commit.field-0.0 CanDrop c.from_residual-in_err-commit.ensures.1
    (commit_caused g.S.Store c.args.conn.now tx last end _ c.transaction-tx.ensures.begun same (Alters (after_trim c.args.floor c.args.first) 0) ran quiet opened c.in_err-commit.field-0.0 CanDrop c.commit.ensures.survives c.in_err-commit.ensures.err)

pub returns-in_err-drop_past-clause-caused : goal.returns-in_err-drop_past-clause-caused
returns-in_err-drop_past-clause-caused g c =
    let old = c.args.conn.now in
    let end = c.drop-tx.new.self.0 in
    let same : end ≡ c.conn-1.given.0 = search rules in
    let e = c.in_err-drop_past.field-0.0 in
    refuses_whole g.S.Store old c.conn-1.given.0 c.from_residual.result e CanDrop c.from_residual.ensures.1
    (dropped_caused g.S.Store old c.transaction-tx.result.conn c.drop_past.new.tx.conn end _ c.transaction-tx.ensures.begun same c.drop-tx.ensures.survives e CanDrop c.in_err-drop_past.ensures.caused)

pub returns-in_err-set_value-clause-caused : goal.returns-in_err-set_value-clause-caused
returns-in_err-set_value-clause-caused g c =
    let old = c.args.conn.now in
    let tx = c.transaction-tx.result.conn in
    let mid = c.drop_past.new.tx.conn in
    let last = c.set_value.new.tx.conn in
    let end = c.drop-tx-in_err-set_value.new.self.0 in
    let same : end ≡ c.conn-in_err-set_value-1.given.0 = search rules in
    let e = c.in_err-set_value.field-0.0 in
    refuses_whole g.S.Store old c.conn-in_err-set_value-1.given.0 c.from_residual-in_err-set_value.result e CanDrop c.from_residual-in_err-set_value.ensures.1
    (dropped_caused g.S.Store old tx last end _ c.transaction-tx.ensures.begun same c.drop-tx-in_err-set_value.ensures.survives e CanDrop
    (caused_then g.S.Store tx mid last e CanDrop (CanSet (codes "floor")) c.drop_past.ensures.quiet c.set_value.ensures.quiet
    (λ clean.
    let did = c.in_ok-drop_past.ensures.done clean in
    (did.goes_on, λ can. can_raise (codes "floor") (after_drop c.args.floor c.args.first) (state g.S.Store tx.now).now (state g.S.Store mid.now).now (omega arith) can did.does))
    c.in_err-set_value.ensures.caused))

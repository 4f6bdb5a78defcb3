use Rattle.std.proofs.Common.{◌≡◌, codes, arith, rules}
use Rattle.sqlite.specs.Held.{state}
use Rattle.sqlite_tables.specs.Tables.{config_at}
use Rattle.sqlite_tables.specs.Steps.{Alters, MayStore, after_configure, with_config, with_entry}
use Rattle.sqlite_tables.specs.Caused.{CanConfigure, CanSet}
use Rattle.sqlite_tables.proofs.Inside.{opened_then, quiet_then}
use Rattle.sqlite_tables.proofs.Taking.{can_add, can_set}
use Rattle.sqlite_tables.proofs.Whole.{caused_then, changes_then, commit_caused, dropped_caused, has_stored, leaves_whole, may_store, on_err, refuses_whole, shows_whole, undone_whole}
use Rattle.sqlite_tables.proofs.commit.configure.Goals as goal

pub returns-clause-crash : goal.returns-clause-crash
returns-clause-crash g c =
    let tx = c.transaction-tx.result.conn in
    let mid = c.insert_config.new.tx.conn in
    let last = c.set_value.new.tx.conn in
    let end = c.commit.new.self.0 in
    let same : end ≡ c.conn-2-1.given.0 = search rules in
    let ran = changes_then g.S.Store tx mid last c.set_value.ensures.quiet (with_config (config_at c.args.rev c.args.text.now)) (with_entry (codes "newest") c.args.rev) 0 0 0 (omega arith) (omega arith) c.in_ok-insert_config.ensures.done c.in_ok-set_value.ensures.done in
    let quiet = quiet_then g.S.Store tx mid last c.insert_config.ensures.quiet c.set_value.ensures.quiet in
    let opened = opened_then g.S.Store tx mid last c.insert_config.ensures.quiet c.set_value.ensures.quiet c.in_ok-set_value.ensures.was_open in
    leaves_whole g.S.Store c.args.conn.now tx last end _ c.transaction-tx.ensures.begun same (Alters (after_configure c.args.rev c.args.text.now) 0) ran quiet opened (MayStore (state g.S.Store c.args.conn.now) (after_configure c.args.rev c.args.text.now) 0) (may_store (after_configure c.args.rev c.args.text.now) 0 (state g.S.Store c.args.conn.now)) c.commit.ensures.survives

pub returns-in_err-commit-clause-crash : goal.returns-in_err-commit-clause-crash
returns-in_err-commit-clause-crash g c =
    let tx = c.transaction-tx.result.conn in
    let mid = c.insert_config.new.tx.conn in
    let last = c.set_value.new.tx.conn in
    let end = c.commit.new.self.0 in
    let same : end ≡ c.conn-2-1.given.0 = search rules in
    let ran = changes_then g.S.Store tx mid last c.set_value.ensures.quiet (with_config (config_at c.args.rev c.args.text.now)) (with_entry (codes "newest") c.args.rev) 0 0 0 (omega arith) (omega arith) c.in_ok-insert_config.ensures.done c.in_ok-set_value.ensures.done in
    let quiet = quiet_then g.S.Store tx mid last c.insert_config.ensures.quiet c.set_value.ensures.quiet in
    let opened = opened_then g.S.Store tx mid last c.insert_config.ensures.quiet c.set_value.ensures.quiet c.in_ok-set_value.ensures.was_open in
    leaves_whole g.S.Store c.args.conn.now tx last end _ c.transaction-tx.ensures.begun same (Alters (after_configure c.args.rev c.args.text.now) 0) ran quiet opened (MayStore (state g.S.Store c.args.conn.now) (after_configure c.args.rev c.args.text.now) 0) (may_store (after_configure c.args.rev c.args.text.now) 0 (state g.S.Store c.args.conn.now)) c.commit.ensures.survives

pub returns-clause-done : goal.returns-clause-done
returns-clause-done g c clean =
    let tx = c.transaction-tx.result.conn in
    let mid = c.insert_config.new.tx.conn in
    let last = c.set_value.new.tx.conn in
    let end = c.commit.new.self.0 in
    let same : end ≡ c.conn-2-1.given.0 = search rules in
    let ran = changes_then g.S.Store tx mid last c.set_value.ensures.quiet (with_config (config_at c.args.rev c.args.text.now)) (with_entry (codes "newest") c.args.rev) 0 0 0 (omega arith) (omega arith) c.in_ok-insert_config.ensures.done c.in_ok-set_value.ensures.done in
    let quiet = quiet_then g.S.Store tx mid last c.insert_config.ensures.quiet c.set_value.ensures.quiet in
    let opened = opened_then g.S.Store tx mid last c.insert_config.ensures.quiet c.set_value.ensures.quiet c.in_ok-set_value.ensures.was_open in
    has_stored (after_configure c.args.rev c.args.text.now) 0 (state g.S.Store c.args.conn.now) _
    (shows_whole g.S.Store c.args.conn.now tx last end _ c.transaction-tx.ensures.begun same (Alters (after_configure c.args.rev c.args.text.now) 0) ran quiet opened c.commit.ensures.survives (λ closed. (c.in_ok-commit.ensures.ok closed).1) clean)

pub returns-in_err-commit-clause-undone : goal.returns-in_err-commit-clause-undone
returns-in_err-commit-clause-undone g c =
    let tx = c.transaction-tx.result.conn in
    let mid = c.insert_config.new.tx.conn in
    let last = c.set_value.new.tx.conn in
    let end = c.commit.new.self.0 in
    let same : end ≡ c.conn-2-1.given.0 = search rules in
    let ran = changes_then g.S.Store tx mid last c.set_value.ensures.quiet (with_config (config_at c.args.rev c.args.text.now)) (with_entry (codes "newest") c.args.rev) 0 0 0 (omega arith) (omega arith) c.in_ok-insert_config.ensures.done c.in_ok-set_value.ensures.done in
    let quiet = quiet_then g.S.Store tx mid last c.insert_config.ensures.quiet c.set_value.ensures.quiet in
    let opened = opened_then g.S.Store tx mid last c.insert_config.ensures.quiet c.set_value.ensures.quiet c.in_ok-set_value.ensures.was_open in
    on_err _ _ (undone_whole g.S.Store c.args.conn.now tx last end _ c.transaction-tx.ensures.begun same (Alters (after_configure c.args.rev c.args.text.now) 0) ran quiet opened _ c.commit.ensures.survives c.in_err-commit.ensures.err)

pub returns-in_err-commit-clause-caused : goal.returns-in_err-commit-clause-caused
returns-in_err-commit-clause-caused g c =
    let tx = c.transaction-tx.result.conn in
    let mid = c.insert_config.new.tx.conn in
    let last = c.set_value.new.tx.conn in
    let end = c.commit.new.self.0 in
    let same : end ≡ c.conn-2-1.given.0 = search rules in
    let ran = changes_then g.S.Store tx mid last c.set_value.ensures.quiet (with_config (config_at c.args.rev c.args.text.now)) (with_entry (codes "newest") c.args.rev) 0 0 0 (omega arith) (omega arith) c.in_ok-insert_config.ensures.done c.in_ok-set_value.ensures.done in
    let quiet = quiet_then g.S.Store tx mid last c.insert_config.ensures.quiet c.set_value.ensures.quiet in
    let opened = opened_then g.S.Store tx mid last c.insert_config.ensures.quiet c.set_value.ensures.quiet c.in_ok-set_value.ensures.was_open in
    refuses_whole g.S.Store c.args.conn.now c.conn-2-1.given.0 c.from_residual-in_err-commit.result c.in_err-commit.field-0.0 (CanConfigure c.args.text.now c.args.rev) c.from_residual-in_err-commit.ensures.1
    (commit_caused g.S.Store c.args.conn.now tx last end _ c.transaction-tx.ensures.begun same (Alters (after_configure c.args.rev c.args.text.now) 0) ran quiet opened c.in_err-commit.field-0.0 (CanConfigure c.args.text.now c.args.rev) c.commit.ensures.survives c.in_err-commit.ensures.err)

pub returns-in_err-insert_config-clause-caused : goal.returns-in_err-insert_config-clause-caused
returns-in_err-insert_config-clause-caused g c =
    let old = c.args.conn.now in
    let end = c.drop-tx.new.self.0 in
    let same : end ≡ c.conn-1.given.0 = search rules in
    let e = c.in_err-insert_config.field-0.0 in
    refuses_whole g.S.Store old c.conn-1.given.0 c.from_residual.result e (CanConfigure c.args.text.now c.args.rev) c.from_residual.ensures.1
    (dropped_caused g.S.Store old c.transaction-tx.result.conn c.insert_config.new.tx.conn end _ c.transaction-tx.ensures.begun same c.drop-tx.ensures.survives e (CanConfigure c.args.text.now c.args.rev)
    (λ inside clean other ready can. c.in_err-insert_config.ensures.caused inside clean other ready (can_add c.args.text.now c.args.rev _ c.requires.positive can)))

pub returns-in_err-set_value-clause-caused : goal.returns-in_err-set_value-clause-caused
returns-in_err-set_value-clause-caused g c =
    let old = c.args.conn.now in
    let tx = c.transaction-tx.result.conn in
    let mid = c.insert_config.new.tx.conn in
    let last = c.set_value.new.tx.conn in
    let end = c.drop-tx-in_err-set_value.new.self.0 in
    let same : end ≡ c.conn-in_err-set_value-1.given.0 = search rules in
    let e = c.in_err-set_value.field-0.0 in
    let Can = CanConfigure c.args.text.now c.args.rev in
    refuses_whole g.S.Store old c.conn-in_err-set_value-1.given.0 c.from_residual-in_err-set_value.result e Can c.from_residual-in_err-set_value.ensures.1
    (dropped_caused g.S.Store old tx last end _ c.transaction-tx.ensures.begun same c.drop-tx-in_err-set_value.ensures.survives e Can
    (caused_then g.S.Store tx mid last e Can (CanSet (codes "newest")) c.insert_config.ensures.quiet c.set_value.ensures.quiet
    (λ clean.
    let did = c.in_ok-insert_config.ensures.done clean in
    (did.goes_on, λ can. can_set (codes "newest") (with_config (config_at c.args.rev c.args.text.now)) 0 c.args.rev (state g.S.Store tx.now).now (state g.S.Store mid.now).now (omega arith) can.before did.does))
    c.in_err-set_value.ensures.caused))

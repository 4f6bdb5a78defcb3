use Rattle.std.proofs.Common.{◌≡◌, ◌≢◌, List, ℕ, sym, subst, ◌∙◌}
use Rattle.sqlite.specs.Held.{state}
use Rattle.sqlite.specs.declared.error.Error.TheVariants.{SqliteFailure}
use Rattle.sqlite.specs.declared.error.ErrorCode.TheVariants.{OutOfMemory}
use Rattle.names.specs.declared.commit.Commit.TheVariants as kinds
use Rattle.config.specs.Causes.{Accepts}
use Rattle.rows.specs.Retained.{with_commit}
use Rattle.sqlite_tables.specs.Steps.{after_configure, MayStore}
use Rattle.store.specs.Written.{canonical}
use Rattle.tables.specs.declared.change.TableChange.TheVariants.{Commit}
use Rattle.store.specs.History.{KeepsHistory, HoldChanged}
use Rattle.store.proofs.Beginning.{small_rev}
use Rattle.store.proofs.Leading.{config_lead, can_configure}
use Rattle.store.proofs.Leaving.{clean_before, survives_quiet, survives_same, holds_stored, leaves_changed, keeps_undone, keeps_twice, failed_in_two}
use Rattle.store.proofs.history.write_config.Goals as goal

pub configure-requires-clause-small : goal.configure-requires-clause-small
configure-requires-clause-small g c = (small_rev (KeepsHistory g.S.Store c.args.conn.now) c.args.rev (kinds.Config c.args.config.now) c.args.puts c.requires.next).1

pub configure-requires-clause-positive : goal.configure-requires-clause-positive
configure-requires-clause-positive g c = (small_rev (KeepsHistory g.S.Store c.args.conn.now) c.args.rev (kinds.Config c.args.config.now) c.args.puts c.requires.next).0

pub returns-in_default-clause-undone : goal.returns-in_default-clause-undone
returns-in_default-clause-undone g c = λ r keeps. keeps

pub returns-in_default-clause-crash : goal.returns-in_default-clause-crash
returns-in_default-clause-crash g c = survives_same (state g.S.Store c.args.conn.now) (HoldChanged g.S.Store c.args.conn.now (Commit c.args.rev (kinds.Config c.args.config.now) c.args.puts))

pub returns-in_default-configure-clause-done : goal.returns-in_default-configure-clause-done
returns-in_default-configure-clause-done g c = λ r keeps next.
    let text = c.as_str.result.now in
    let text_is : text ≡ canonical c.args.config.now = c.as_str.ensures.value ∙ c.in-Ok.ensures.text in
    let accepts : Accepts text c.args.config.now = subst (λ (t : List ℕ). Accepts t c.args.config.now) (sym c.as_str.ensures.value) c.in-Ok.ensures.read_back in
    let f = after_configure c.args.rev text in
    holds_stored g.S.Store c.args.conn.now c.configure.new.conn r (with_commit r (kinds.Config c.args.config.now)) f 0 (MayStore (state g.S.Store c.args.conn.now) f 0)
    keeps c.configure.ensures.crash c.in_default-configure.ensures.done (config_lead r c.args.rev c.args.puts text c.args.config.now next text_is accepts)

pub returns-in_default-configure-clause-crash : goal.returns-in_default-configure-clause-crash
returns-in_default-configure-clause-crash g c =
    let text = c.as_str.result.now in
    let text_is : text ≡ canonical c.args.config.now = c.as_str.ensures.value ∙ c.in-Ok.ensures.text in
    let accepts : Accepts text c.args.config.now = subst (λ (t : List ℕ). Accepts t c.args.config.now) (sym c.as_str.ensures.value) c.in-Ok.ensures.read_back in
    leaves_changed g.S.Store c.args.conn.now c.configure.new.conn (Commit c.args.rev (kinds.Config c.args.config.now) c.args.puts) (after_configure c.args.rev text) 0 c.configure.ensures.crash
    (λ r next. config_lead r c.args.rev c.args.puts text c.args.config.now next text_is accepts)

pub returns-in_default-configure-clause-open : goal.returns-in_default-configure-clause-open
returns-in_default-configure-clause-open g c = λ clean. (c.in_default-configure.ensures.done clean).is_open

pub returns-clause-undone : goal.returns-clause-undone
returns-clause-undone g c =
    let may = MayStore (state g.S.Store c.args.conn.now) (after_configure c.args.rev c.as_str.result.now) 0 in
    keeps_twice g.S.Store c.args.conn.now c.configure.new.conn c.why.new.conn (keeps_undone g.S.Store c.args.conn.now c.configure.new.conn may c.configure.ensures.crash c.in-Err.ensures.undone)
    (keeps_undone g.S.Store c.configure.new.conn c.why.new.conn (λ _. ⊥) c.why.ensures.quiet c.why.ensures.undone)

pub returns-clause-crash : goal.returns-clause-crash
returns-clause-crash g c =
    let text = c.as_str.result.now in
    let text_is : text ≡ canonical c.args.config.now = c.as_str.ensures.value ∙ c.in-Ok.ensures.text in
    let accepts : Accepts text c.args.config.now = subst (λ (t : List ℕ). Accepts t c.args.config.now) (sym c.as_str.ensures.value) c.in-Ok.ensures.read_back in
    let next_trees = HoldChanged g.S.Store c.args.conn.now (Commit c.args.rev (kinds.Config c.args.config.now) c.args.puts) in
    survives_quiet (state g.S.Store c.args.conn.now) (state g.S.Store c.configure.new.conn) (state g.S.Store c.why.new.conn) next_trees
    (leaves_changed g.S.Store c.args.conn.now c.configure.new.conn (Commit c.args.rev (kinds.Config c.args.config.now) c.args.puts) (after_configure c.args.rev text) 0 c.configure.ensures.crash
    (λ r next. config_lead r c.args.rev c.args.puts text c.args.config.now next text_is accepts))
    c.why.ensures.quiet

pub returns-clause-caused : goal.returns-clause-caused
returns-clause-caused g c = λ is was clean.
    let old = state g.S.Store c.args.conn.now in
    let mid = state g.S.Store c.configure.new.conn in
    let new = state g.S.Store c.why.new.conn in
    let text = c.as_str.result.now in
    let text_is : text ≡ canonical c.args.config.now = c.as_str.ensures.value ∙ c.in-Ok.ensures.text in
    let accepts : Accepts text c.args.config.now = subst (λ (t : List ℕ). Accepts t c.args.config.now) (sym c.as_str.ensures.value) c.in-Ok.ensures.read_back in
    let may = MayStore old (after_configure c.args.rev text) 0 in
    let next = c.requires.next in
    let first = clean_before old mid may c.configure.ensures.crash (clean_before mid new (λ _. ⊥) c.why.ensures.quiet clean) in
    let k = next.1 first (was first) in
    failed_in_two old mid new (c.in-Err.error ≢ SqliteFailure OutOfMemory) may c.configure.ensures.crash c.why.ensures.quiet
    (λ calm other. c.in-Err.ensures.caused calm other (record { is_open = was first; unlimited = c.requires.unlimited })
    (can_configure old next.0 c.args.rev text k next.2.1 accepts.size))
    (c.why.ensures.caused (cc)) (was first) clean

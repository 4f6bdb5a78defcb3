use Rattle.std.proofs.Common.{◌≡◌, ◌≢◌, sym, subst, ◌∙◌}
use Rattle.sqlite.specs.Tree.{Trees}
use Rattle.sqlite.specs.Held.{state}
use Rattle.sqlite.specs.declared.error.Error.TheVariants.{SqliteFailure}
use Rattle.sqlite.specs.declared.error.ErrorCode.TheVariants.{OutOfMemory, NameTaken}
use Rattle.sqlite.proofs.StateLemmas.{survives_weaker}
use Rattle.rows.specs.Retained.{empty_store}
use Rattle.sqlite_tables.specs.Steps.{new_store}
use Rattle.sqlite_tables.specs.Leaves.{IsBlank, MayCreate}
use Rattle.store.specs.History.{TreesHold}
use Rattle.store.proofs.Beginning.{new_history}
use Rattle.store.proofs.Leaving.{survives_quiet, committed_with, trees_hold, undoes_twice, failed_in_two}
use Rattle.store.proofs.history.make_tables.Goals as goal

pub returns-in_default-clause-done : goal.returns-in_default-clause-done
returns-in_default-clause-done g c = λ clean is_open.
    let p = c.in_default.ensures.done.1 clean in
    committed_with (state g.S.Store c.create.new.conn) (new_store c.args.number) (empty_store c.args.number) p.committed p.new.holds p.sound (new_history c.args.number c.requires.some c.requires.small) p.new.numbered

pub returns-in_default-clause-open : goal.returns-in_default-clause-open
returns-in_default-clause-open g c = λ clean. (c.in_default.ensures.done.1 clean).is_open

pub returns-in_default-clause-crash : goal.returns-in_default-clause-crash
returns-in_default-clause-crash g c =
    survives_weaker (state g.S.Store c.args.conn.now) (state g.S.Store c.create.new.conn) (λ trees. IsBlank g.S.Store c.args.conn.now × MayCreate (state g.S.Store c.args.conn.now) c.args.number trees)
    (λ trees. IsBlank g.S.Store c.args.conn.now × TreesHold trees (empty_store c.args.number))
    (λ clean trees may.
    let made = may.1.made may.0 in
    (may.0, subst (λ (t : Trees). TreesHold t (empty_store c.args.number)) (sym may.1.is) (trees_hold may.1.db (new_store c.args.number) (empty_store c.args.number) made.0.holds made.1 (new_history c.args.number c.requires.some c.requires.small) made.0.numbered)))
    c.create.ensures.crash

pub returns-clause-crash : goal.returns-clause-crash
returns-clause-crash g c =
    let last = λ (trees : Trees). IsBlank g.S.Store c.args.conn.now × TreesHold trees (empty_store c.args.number) in
    survives_quiet (state g.S.Store c.args.conn.now) (state g.S.Store c.create.new.conn) (state g.S.Store c.why.new.conn) last
    (survives_weaker (state g.S.Store c.args.conn.now) (state g.S.Store c.create.new.conn) (λ trees. IsBlank g.S.Store c.args.conn.now × MayCreate (state g.S.Store c.args.conn.now) c.args.number trees) last
    (λ clean trees may.
    let made = may.1.made may.0 in
    (may.0, subst (λ (t : Trees). TreesHold t (empty_store c.args.number)) (sym may.1.is) (trees_hold may.1.db (new_store c.args.number) (empty_store c.args.number) made.0.holds made.1 (new_history c.args.number c.requires.some c.requires.small) made.0.numbered)))
    c.create.ensures.crash)
    c.why.ensures.quiet

pub returns-clause-taken : goal.returns-clause-taken
returns-clause-taken g c = λ taken.
    let refused = c.create.ensures.refused taken in
    let untouched = c.create.ensures.untouched taken in
    let is : c.in-Err.error ≡ SqliteFailure NameTaken = cc in
    let other : c.in-Err.error ≢ SqliteFailure OutOfMemory = λ e. cc in
    let same = c.why.ensures.same other in
    (cc, same.1 ∙ untouched)

pub returns-clause-undone : goal.returns-clause-undone
returns-clause-undone g c = λ blank. undoes_twice g.S.Store c.args.conn.now c.create.new.conn c.why.new.conn (λ _. ⊥) c.why.ensures.quiet (c.in-Err.ensures.undone blank) c.why.ensures.undone

pub returns-clause-caused : goal.returns-clause-caused
returns-clause-caused g c = λ is was blank clean.
    let old = state g.S.Store c.args.conn.now in
    let may = λ (trees : Trees). IsBlank g.S.Store c.args.conn.now × MayCreate old c.args.number trees in
    failed_in_two old (state g.S.Store c.create.new.conn) (state g.S.Store c.why.new.conn) (c.in-Err.error ≢ SqliteFailure OutOfMemory) may c.create.ensures.crash c.why.ensures.quiet
    (λ calm other. c.in-Err.ensures.caused calm other (record { is_open = was; unlimited = c.requires.unlimited }) blank)
    (c.why.ensures.caused (cc)) was clean

use Rattle.std.proofs.Common.{◌≡◌, rules}
use Rattle.sqlite.specs.Effect.{Database}
use Rattle.sqlite.specs.Held.{state}
use Rattle.sqlite_tables.specs.Steps.{Founds, HasNew, HasNone}
use Rattle.sqlite_tables.specs.Leaves.{MayCreate}
use Rattle.sqlite_tables.proofs.Whole.{commit_caused, dropped_caused, leaves_whole, may_create, on_err, refuses_whole, shows_whole, stands_new, undone_whole}
use Rattle.sqlite_tables.proofs.commit.make_store.Goals as goal

pub returns-clause-crash : goal.returns-clause-crash
returns-clause-crash g c =
    let tx = c.transaction-tx.result.conn in
    let last = c.make_all.new.tx.conn in
    let end = c.commit.new.self.0 in
    let same : end ≡ c.conn-2-1.given.0 = search rules in
    let number = c.args.number in
    let Made : Database → Database → Type 0 = Founds HasNone (HasNew number) in
    let old = c.args.conn.now in
    leaves_whole g.S.Store old tx last end _ c.transaction-tx.ensures.begun same Made c.in_ok-make_all.ensures.done c.make_all.ensures.quiet c.in_ok-make_all.ensures.was_open (MayCreate (state g.S.Store old) number) (may_create number (state g.S.Store old)) c.commit.ensures.survives

pub returns-in_err-commit-clause-crash : goal.returns-in_err-commit-clause-crash
returns-in_err-commit-clause-crash g c =
    let tx = c.transaction-tx.result.conn in
    let last = c.make_all.new.tx.conn in
    let end = c.commit.new.self.0 in
    let same : end ≡ c.conn-2-1.given.0 = search rules in
    let number = c.args.number in
    let Made : Database → Database → Type 0 = Founds HasNone (HasNew number) in
    let old = c.args.conn.now in
    leaves_whole g.S.Store old tx last end _ c.transaction-tx.ensures.begun same Made c.in_ok-make_all.ensures.done c.make_all.ensures.quiet c.in_ok-make_all.ensures.was_open (MayCreate (state g.S.Store old) number) (may_create number (state g.S.Store old)) c.commit.ensures.survives

pub returns-clause-done : goal.returns-clause-done
returns-clause-done g c = λ blank clean.
    let tx = c.transaction-tx.result.conn in
    let last = c.make_all.new.tx.conn in
    let end = c.commit.new.self.0 in
    let same : end ≡ c.conn-2-1.given.0 = search rules in
    let number = c.args.number in
    let Made : Database → Database → Type 0 = Founds HasNone (HasNew number) in
    let old = c.args.conn.now in
    stands_new number (state g.S.Store old) _ (shows_whole g.S.Store old tx last end _ c.transaction-tx.ensures.begun same Made c.in_ok-make_all.ensures.done c.make_all.ensures.quiet c.in_ok-make_all.ensures.was_open c.commit.ensures.survives (λ closed. (c.in_ok-commit.ensures.ok closed).1) clean) blank

pub returns-in_err-commit-clause-undone : goal.returns-in_err-commit-clause-undone
returns-in_err-commit-clause-undone g c =
    let tx = c.transaction-tx.result.conn in
    let last = c.make_all.new.tx.conn in
    let end = c.commit.new.self.0 in
    let same : end ≡ c.conn-2-1.given.0 = search rules in
    let number = c.args.number in
    let Made : Database → Database → Type 0 = Founds HasNone (HasNew number) in
    let old = c.args.conn.now in
    on_err _ _ (undone_whole g.S.Store old tx last end _ c.transaction-tx.ensures.begun same Made c.in_ok-make_all.ensures.done c.make_all.ensures.quiet c.in_ok-make_all.ensures.was_open _ c.commit.ensures.survives c.in_err-commit.ensures.err)

pub returns-in_err-commit-clause-caused : goal.returns-in_err-commit-clause-caused
returns-in_err-commit-clause-caused g c =
    let tx = c.transaction-tx.result.conn in
    let last = c.make_all.new.tx.conn in
    let end = c.commit.new.self.0 in
    let same : end ≡ c.conn-2-1.given.0 = search rules in
    let number = c.args.number in
    let Made : Database → Database → Type 0 = Founds HasNone (HasNew number) in
    let old = c.args.conn.now in
    refuses_whole g.S.Store old c.conn-2-1.given.0 c.from_residual-in_err-commit.result c.in_err-commit.field-0.0 HasNone c.from_residual-in_err-commit.ensures.1
    (commit_caused g.S.Store old tx last end _ c.transaction-tx.ensures.begun same Made c.in_ok-make_all.ensures.done c.make_all.ensures.quiet c.in_ok-make_all.ensures.was_open c.in_err-commit.field-0.0 HasNone c.commit.ensures.survives c.in_err-commit.ensures.err)

pub returns-in_err-make_all-clause-caused : goal.returns-in_err-make_all-clause-caused
returns-in_err-make_all-clause-caused g c =
    let old = c.args.conn.now in
    let end = c.drop-tx.new.self.0 in
    let same : end ≡ c.conn-1.given.0 = search rules in
    let e = c.in_err-make_all.field-0.0 in
    refuses_whole g.S.Store old c.conn-1.given.0 c.from_residual.result e HasNone c.from_residual.ensures.1
    (dropped_caused g.S.Store old c.transaction-tx.result.conn c.make_all.new.tx.conn end _ c.transaction-tx.ensures.begun same c.drop-tx.ensures.survives e HasNone c.in_err-make_all.ensures.caused)

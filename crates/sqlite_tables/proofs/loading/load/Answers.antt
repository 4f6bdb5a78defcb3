use Rattle.std.proofs.Common.{map, arith}
use Rattle.std.proofs.lemmas.List.Sorted.{IsPermutation-refl}
use Rattle.sqlite.specs.State.{HasCleanDisk}
use Rattle.sqlite.specs.Held.{state}
use Rattle.sqlite_tables.specs.Stored.{span_in, config_row_in, entry_in}
use Rattle.sqlite_tables.proofs.Found.{whole, holds_whole}
use Rattle.sqlite_tables.proofs.LoadLemmas.{loads_same}
use Rattle.sqlite_tables.proofs.TableReads.{handed, then_caused, then_left}
use Rattle.sqlite_tables.proofs.loading.load.Goals as goal

pub returns-clause-found : goal.returns-clause-found
returns-clause-found g c clean =
    let g0 = g.S.Store in
    let first = state g0 c.args.conn.now in
    let fourth : HasCleanDisk (state g0 c.load_configs.new.conn) = omega (arith, c.load_entries.ensures.crash.clean, clean) in
    let third : HasCleanDisk (state g0 c.load_spans.new.conn) = omega (arith, c.load_configs.ensures.crash.clean, fourth) in
    let second : HasCleanDisk (state g0 c.check_tables.new.conn) = omega (arith, c.load_spans.ensures.crash.clean, third) in
    let has = c.is_format.ensures.yes c.if-not-is_format.false in
    let xs = map span_in c.in_ok-spans.spans.items in
    let cs = map config_row_in c.in_ok-configs.configs.items in
    let es = map entry_in c.in_ok-entries.entries.items in
    let read = whole first (state g0 c.check_tables.new.conn) (state g0 c.load_spans.new.conn) (state g0 c.load_configs.new.conn) xs cs es c.is_format.ensures.live has (c.in_ok-last_rowid.ensures.same second has)
    (c.in_ok-spans.ensures.found third) (c.in_ok-spans.ensures.same third) (c.in_ok-configs.ensures.found fourth) (c.in_ok-configs.ensures.same fourth) (c.in_ok-entries.ensures.found clean) in (
      record { spans = xs; configs = cs; entries = es },
      holds_whole first.now xs cs es has (c.in_ok-last_rowid.ensures.found second has) read,
      record { spans = IsPermutation-refl xs; configs = IsPermutation-refl cs; entries = IsPermutation-refl es },
    )

pub returns-clause-held : goal.returns-clause-held
returns-clause-held g c clean h holds =
    let found = returns-clause-found g c clean in
    loads_same _ h found.0 _ holds found.1 found.2

pub returns-clause-ordered : goal.returns-clause-ordered
returns-clause-ordered g c clean has =
    let g0 = g.S.Store in
    let first = state g0 c.args.conn.now in
    let fourth : HasCleanDisk (state g0 c.load_configs.new.conn) = omega (arith, c.load_entries.ensures.crash.clean, clean) in
    let third : HasCleanDisk (state g0 c.load_spans.new.conn) = omega (arith, c.load_configs.ensures.crash.clean, fourth) in
    let second : HasCleanDisk (state g0 c.check_tables.new.conn) = omega (arith, c.load_spans.ensures.crash.clean, third) in
    let read = whole first (state g0 c.check_tables.new.conn) (state g0 c.load_spans.new.conn) (state g0 c.load_configs.new.conn) _ _ _ c.is_format.ensures.live has (c.in_ok-last_rowid.ensures.same second has)
    (c.in_ok-spans.ensures.found third) (c.in_ok-spans.ensures.same third) (c.in_ok-configs.ensures.found fourth) (c.in_ok-configs.ensures.same fourth) (c.in_ok-entries.ensures.found clean) in
    record { spans = read.0.order; configs = read.1.order; entries = read.2.order }

pub returns-in_err-last_rowid-clause-undone : goal.returns-in_err-last_rowid-clause-undone
returns-in_err-last_rowid-clause-undone g c clean is = c.check_tables.ensures.left (c.is_format.ensures.yes c.if-not-is_format.false) clean is

pub returns-in_err-last_rowid-clause-caused : goal.returns-in_err-last_rowid-clause-caused
returns-in_err-last_rowid-clause-caused g c clean =
    let why = (c.in_err-last_rowid.ensures.caused clean) in
    handed c.from_residual.result c.in_err-last_rowid.field-0.0 _ c.from_residual.ensures.1 why

pub returns-in_err-spans-clause-undone : goal.returns-in_err-spans-clause-undone
returns-in_err-spans-clause-undone g c clean is = (then_left (state g.S.Store c.args.conn.now) (state g.S.Store c.check_tables.new.conn) (state g.S.Store c.load_spans.new.conn) (λ has. c.in_ok-last_rowid.ensures.same (omega (arith, clean, c.load_spans.ensures.crash.clean)) has) (λ has is. c.load_spans.ensures.left has clean is)) (c.is_format.ensures.yes c.if-not-is_format.false) is

pub returns-in_err-spans-clause-caused : goal.returns-in_err-spans-clause-caused
returns-in_err-spans-clause-caused g c clean =
    let why = (then_caused (state g.S.Store c.args.conn.now) (state g.S.Store c.check_tables.new.conn) (state g.S.Store c.load_spans.new.conn) _ (λ has. c.in_ok-last_rowid.ensures.same (omega (arith, clean, c.load_spans.ensures.crash.clean)) has) c.check_tables.ensures.crash.counts c.check_tables.ensures.crash.limit (c.in_err-spans.ensures.caused clean)) in
    handed c.from_residual-in_err-spans.result c.in_err-spans.field-0.0 _ c.from_residual-in_err-spans.ensures.1 why

pub returns-in_err-configs-clause-undone : goal.returns-in_err-configs-clause-undone
returns-in_err-configs-clause-undone g c clean is = (then_left (state g.S.Store c.args.conn.now) (state g.S.Store c.check_tables.new.conn) (state g.S.Store c.load_configs.new.conn) (λ has. c.in_ok-last_rowid.ensures.same (omega (arith, clean, c.load_spans.ensures.crash.clean, c.load_configs.ensures.crash.clean)) has) (then_left (state g.S.Store c.check_tables.new.conn) (state g.S.Store c.load_spans.new.conn) (state g.S.Store c.load_configs.new.conn) (λ has. c.in_ok-spans.ensures.same (omega (arith, clean, c.load_configs.ensures.crash.clean)) has) (λ has is. c.load_configs.ensures.left has clean is))) (c.is_format.ensures.yes c.if-not-is_format.false) is

pub returns-in_err-configs-clause-caused : goal.returns-in_err-configs-clause-caused
returns-in_err-configs-clause-caused g c clean =
    let why = (then_caused (state g.S.Store c.args.conn.now) (state g.S.Store c.check_tables.new.conn) (state g.S.Store c.load_configs.new.conn) _ (λ has. c.in_ok-last_rowid.ensures.same (omega (arith, clean, c.load_spans.ensures.crash.clean, c.load_configs.ensures.crash.clean)) has) c.check_tables.ensures.crash.counts c.check_tables.ensures.crash.limit (then_caused (state g.S.Store c.check_tables.new.conn) (state g.S.Store c.load_spans.new.conn) (state g.S.Store c.load_configs.new.conn) _ (λ has. c.in_ok-spans.ensures.same (omega (arith, clean, c.load_configs.ensures.crash.clean)) has) c.load_spans.ensures.crash.counts c.load_spans.ensures.crash.limit (c.in_err-configs.ensures.caused clean))) in
    handed c.from_residual-in_err-configs.result c.in_err-configs.field-0.0 _ c.from_residual-in_err-configs.ensures.1 why

pub returns-in_err-entries-clause-undone : goal.returns-in_err-entries-clause-undone
returns-in_err-entries-clause-undone g c clean is = (then_left (state g.S.Store c.args.conn.now) (state g.S.Store c.check_tables.new.conn) (state g.S.Store c.load_entries.new.conn) (λ has. c.in_ok-last_rowid.ensures.same (omega (arith, clean, c.load_spans.ensures.crash.clean, c.load_configs.ensures.crash.clean, c.load_entries.ensures.crash.clean)) has) (then_left (state g.S.Store c.check_tables.new.conn) (state g.S.Store c.load_spans.new.conn) (state g.S.Store c.load_entries.new.conn) (λ has. c.in_ok-spans.ensures.same (omega (arith, clean, c.load_configs.ensures.crash.clean, c.load_entries.ensures.crash.clean)) has) (then_left (state g.S.Store c.load_spans.new.conn) (state g.S.Store c.load_configs.new.conn) (state g.S.Store c.load_entries.new.conn) (λ has. c.in_ok-configs.ensures.same (omega (arith, clean, c.load_entries.ensures.crash.clean)) has) (λ has is. c.load_entries.ensures.left has clean is)))) (c.is_format.ensures.yes c.if-not-is_format.false) is

pub returns-in_err-entries-clause-caused : goal.returns-in_err-entries-clause-caused
returns-in_err-entries-clause-caused g c clean =
    let why = (then_caused (state g.S.Store c.args.conn.now) (state g.S.Store c.check_tables.new.conn) (state g.S.Store c.load_entries.new.conn) _ (λ has. c.in_ok-last_rowid.ensures.same (omega (arith, clean, c.load_spans.ensures.crash.clean, c.load_configs.ensures.crash.clean, c.load_entries.ensures.crash.clean)) has) c.check_tables.ensures.crash.counts c.check_tables.ensures.crash.limit (then_caused (state g.S.Store c.check_tables.new.conn) (state g.S.Store c.load_spans.new.conn) (state g.S.Store c.load_entries.new.conn) _ (λ has. c.in_ok-spans.ensures.same (omega (arith, clean, c.load_configs.ensures.crash.clean, c.load_entries.ensures.crash.clean)) has) c.load_spans.ensures.crash.counts c.load_spans.ensures.crash.limit (then_caused (state g.S.Store c.load_spans.new.conn) (state g.S.Store c.load_configs.new.conn) (state g.S.Store c.load_entries.new.conn) _ (λ has. c.in_ok-configs.ensures.same (omega (arith, clean, c.load_entries.ensures.crash.clean)) has) c.load_configs.ensures.crash.counts c.load_configs.ensures.crash.limit (c.in_err-entries.ensures.caused clean)))) in
    handed c.from_residual-in_err-entries.result c.in_err-entries.field-0.0 _ c.from_residual-in_err-entries.ensures.1 why

pub returns-clause-undone : goal.returns-clause-undone
returns-clause-undone g c clean is = (then_left (state g.S.Store c.args.conn.now) (state g.S.Store c.check_tables.new.conn) (state g.S.Store c.load_entries.new.conn) (λ has. c.in_ok-last_rowid.ensures.same (omega (arith, clean, c.load_spans.ensures.crash.clean, c.load_configs.ensures.crash.clean, c.load_entries.ensures.crash.clean)) has) (then_left (state g.S.Store c.check_tables.new.conn) (state g.S.Store c.load_spans.new.conn) (state g.S.Store c.load_entries.new.conn) (λ has. c.in_ok-spans.ensures.same (omega (arith, clean, c.load_configs.ensures.crash.clean, c.load_entries.ensures.crash.clean)) has) (then_left (state g.S.Store c.load_spans.new.conn) (state g.S.Store c.load_configs.new.conn) (state g.S.Store c.load_entries.new.conn) (λ has. c.in_ok-configs.ensures.same (omega (arith, clean, c.load_entries.ensures.crash.clean)) has) (λ has is. c.load_entries.ensures.left has clean is)))) (c.is_format.ensures.yes c.if-not-is_format.false) is

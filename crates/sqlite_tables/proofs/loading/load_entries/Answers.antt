use Rattle.std.proofs.Common.{map}
use Rattle.sqlite.specs.Held.{state}
use Rattle.sqlite_tables.specs.Tables.{entry_cells, two}
use Rattle.sqlite_tables.specs.Stored.{entry_in, AreEntries}
use Rattle.sqlite_tables.proofs.Texts.{read_text, entries_plain}
use Rattle.sqlite_tables.proofs.LoadLemmas.{on_ok, read_same, read_survives}
use Rattle.sqlite_tables.proofs.Found.{finds, found_entries}
use Rattle.sqlite_tables.specs.Reading.{ShowsEntry}
use Rattle.sqlite_tables.proofs.TableReads.{handed, if_err, left_same, failed_left, entries_shown, entries_caused, read_caused}
use Rattle.sqlite_tables.proofs.loading.load_entries.Goals as goal

pub returns-clause-found : goal.returns-clause-found
returns-clause-found g c clean has live =
    let old = state g.S.Store c.args.conn.now in
    let new = state g.S.Store c.query_all.new.self in
    let rows = c.in_ok-rows.rows.items in
    finds read_text entries_plain old new rows two entry_cells (λ v. map entry_in v.items) AreEntries (found_entries old new rows) has live (c.in_ok-rows.ensures.ok clean) c.as_slice.result.now c.as_slice.ensures.value
    c.read_entries.result c.read_entries.ensures.value

pub returns-clause-same : goal.returns-clause-same
returns-clause-same g c clean has = on_ok c.read_entries.result _ (read_same read_text entries_plain (state g.S.Store c.args.conn.now) (state g.S.Store c.query_all.new.self) c.in_ok-rows.rows.items has (c.in_ok-rows.ensures.ok clean))

pub returns-clause-crash : goal.returns-clause-crash
returns-clause-crash g c = read_survives read_text entries_plain (state g.S.Store c.args.conn.now) (state g.S.Store c.query_all.new.self) c.query_all.ensures.survives

pub returns-in_err-rows-clause-crash : goal.returns-in_err-rows-clause-crash
returns-in_err-rows-clause-crash g c = read_survives read_text entries_plain (state g.S.Store c.args.conn.now) (state g.S.Store c.query_all.new.self) c.query_all.ensures.survives

pub returns-in_err-rows-clause-left : goal.returns-in_err-rows-clause-left
returns-in_err-rows-clause-left g c has clean is = failed_left read_text _ (state g.S.Store c.args.conn.now) (state g.S.Store c.query_all.new.self) _ (c.in_err-rows.ensures.err clean) is

pub returns-in_err-rows-clause-caused : goal.returns-in_err-rows-clause-caused
returns-in_err-rows-clause-caused g c clean =
    let why = entries_caused (state g.S.Store c.args.conn.now) (state g.S.Store c.query_all.new.self) _ (c.in_err-rows.ensures.err clean) in
    handed c.from_residual.result c.in_err-rows.field-0.0 _ c.from_residual.ensures.1 why

pub returns-clause-left : goal.returns-clause-left
returns-clause-left g c has clean is =
    left_same (state g.S.Store c.args.conn.now) (state g.S.Store c.query_all.new.self)
    (read_same read_text entries_plain (state g.S.Store c.args.conn.now) (state g.S.Store c.query_all.new.self) c.in_ok-rows.rows.items has (c.in_ok-rows.ensures.ok clean))

pub returns-clause-caused : goal.returns-clause-caused
returns-clause-caused g c clean =
    let old = state g.S.Store c.args.conn.now in
    let new = state g.S.Store c.query_all.new.self in
    let rows = c.in_ok-rows.rows.items in
    if_err c.read_entries.result _ _ (λ e. read_caused ShowsEntry old new rows c.as_slice.result.now c.as_slice.ensures.value (λ can. entries_shown old new rows can (c.in_ok-rows.ensures.ok clean)) e) c.read_entries.ensures.unread

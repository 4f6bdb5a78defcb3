use Rattle.std.proofs.Common.{map}
use Rattle.sqlite.specs.Held.{state}
use Rattle.sqlite_tables.specs.Tables.{config_cells, two}
use Rattle.sqlite_tables.specs.Stored.{config_row_in, AreConfigs}
use Rattle.sqlite_tables.proofs.Texts.{configs_text, configs_plain}
use Rattle.sqlite_tables.proofs.LoadLemmas.{on_ok, read_same, read_survives}
use Rattle.sqlite_tables.proofs.Found.{finds, found_configs}
use Rattle.sqlite_tables.specs.Reading.{ShowsConfig}
use Rattle.sqlite_tables.proofs.TableReads.{handed, if_err, left_same, failed_left, configs_shown, configs_caused, read_caused}
use Rattle.sqlite_tables.proofs.loading.load_configs.Goals as goal

pub returns-clause-found : goal.returns-clause-found
returns-clause-found g c clean has live =
    let old = state g.S.Store c.args.conn.now in
    let new = state g.S.Store c.query_all.new.self in
    let rows = c.in_ok-rows.rows.items in
    finds configs_text configs_plain old new rows two config_cells (λ v. map config_row_in v.items) AreConfigs (found_configs old new rows) has live (c.in_ok-rows.ensures.ok clean) c.as_slice.result.now c.as_slice.ensures.value
    c.read_configs.result c.read_configs.ensures.value

pub returns-clause-same : goal.returns-clause-same
returns-clause-same g c clean has = on_ok c.read_configs.result _ (read_same configs_text configs_plain (state g.S.Store c.args.conn.now) (state g.S.Store c.query_all.new.self) c.in_ok-rows.rows.items has (c.in_ok-rows.ensures.ok clean))

pub returns-clause-crash : goal.returns-clause-crash
returns-clause-crash g c = read_survives configs_text configs_plain (state g.S.Store c.args.conn.now) (state g.S.Store c.query_all.new.self) c.query_all.ensures.survives

pub returns-in_err-rows-clause-crash : goal.returns-in_err-rows-clause-crash
returns-in_err-rows-clause-crash g c = read_survives configs_text configs_plain (state g.S.Store c.args.conn.now) (state g.S.Store c.query_all.new.self) c.query_all.ensures.survives

pub returns-in_err-rows-clause-left : goal.returns-in_err-rows-clause-left
returns-in_err-rows-clause-left g c has clean is = failed_left configs_text _ (state g.S.Store c.args.conn.now) (state g.S.Store c.query_all.new.self) _ (c.in_err-rows.ensures.err clean) is

pub returns-in_err-rows-clause-caused : goal.returns-in_err-rows-clause-caused
returns-in_err-rows-clause-caused g c clean =
    let why = configs_caused (state g.S.Store c.args.conn.now) (state g.S.Store c.query_all.new.self) _ (c.in_err-rows.ensures.err clean) in
    handed c.from_residual.result c.in_err-rows.field-0.0 _ c.from_residual.ensures.1 why

pub returns-clause-left : goal.returns-clause-left
returns-clause-left g c has clean is =
    left_same (state g.S.Store c.args.conn.now) (state g.S.Store c.query_all.new.self)
    (read_same configs_text configs_plain (state g.S.Store c.args.conn.now) (state g.S.Store c.query_all.new.self) c.in_ok-rows.rows.items has (c.in_ok-rows.ensures.ok clean))

pub returns-clause-caused : goal.returns-clause-caused
returns-clause-caused g c clean =
    let old = state g.S.Store c.args.conn.now in
    let new = state g.S.Store c.query_all.new.self in
    let rows = c.in_ok-rows.rows.items in
    if_err c.read_configs.result _ _ (λ e. read_caused ShowsConfig old new rows c.as_slice.result.now c.as_slice.ensures.value (λ can. configs_shown old new rows can (c.in_ok-rows.ensures.ok clean)) e) c.read_configs.ensures.unread

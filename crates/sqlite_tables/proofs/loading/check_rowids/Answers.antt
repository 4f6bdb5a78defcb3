use Rattle.std.proofs.Common.{◌-◌, ℕ, List, length, slice_index, map, ap, ◌∙◌, sym, subst, refl}
use Rattle.std.specs.List.Sorted.{IsStrictlyIncreasing}
use Rattle.sqlite.specs.Held.{state}
use Rattle.sqlite_tables.specs.Tables.{one}
use Rattle.sqlite_tables.specs.Reading.{IsGreatest, ShowsId}
use Rattle.sqlite_tables.proofs.Texts.{reads_ids}
use Rattle.sqlite_tables.proofs.LoadLemmas.{read_same, read_survives}
use Rattle.sqlite_tables.proofs.Found.{found_rowids}
use Rattle.sqlite_tables.proofs.Greatest.{ids_rise, greatest}
use Rattle.sqlite_tables.proofs.TableReads.{handed, left_same, failed_left, keyed_in, ids_shown, ids_caused, read_caused}
use Rattle.sqlite_tables.proofs.loading.check_rowids.Goals as goal

pub returns-in_err-rows-clause-crash : goal.returns-in_err-rows-clause-crash
returns-in_err-rows-clause-crash g c =
    read_survives c.args.sql.now (reads_ids _ _ c.requires.1).plain (state g.S.Store c.args.conn.now) (state g.S.Store c.query_all.new.self) c.query_all.ensures.survives

pub returns-in_err-ids-clause-crash : goal.returns-in_err-ids-clause-crash
returns-in_err-ids-clause-crash g c =
    read_survives c.args.sql.now (reads_ids _ _ c.requires.1).plain (state g.S.Store c.args.conn.now) (state g.S.Store c.query_all.new.self) c.query_all.ensures.survives

pub returns-then-are_rising-clause-found : goal.returns-then-are_rising-clause-found
returns-then-are_rising-clause-found g c clean has tree asks =
    found_rowids c.args.sql.now tree asks (state g.S.Store c.args.conn.now) (state g.S.Store c.query_all.new.self) c.in_ok-rows.rows.items c.in_ok-ids.ids.items has (c.in_ok-rows.ensures.ok clean)
    (sym (ap (map one) c.as_slice.ensures.value) ∙ c.in_ok-ids.ensures.value) (subst IsStrictlyIncreasing c.as_slice-2.ensures.value (c.if-are_rising.ensures.yes refl))

pub returns-then-are_rising-clause-same : goal.returns-then-are_rising-clause-same
returns-then-are_rising-clause-same g c clean has =
    read_same c.args.sql.now (reads_ids _ _ c.requires.1).plain (state g.S.Store c.args.conn.now) (state g.S.Store c.query_all.new.self) c.in_ok-rows.rows.items has (c.in_ok-rows.ensures.ok clean)

pub returns-then-are_rising-clause-crash : goal.returns-then-are_rising-clause-crash
returns-then-are_rising-clause-crash g c =
    read_survives c.args.sql.now (reads_ids _ _ c.requires.1).plain (state g.S.Store c.args.conn.now) (state g.S.Store c.query_all.new.self) c.query_all.ensures.survives

pub returns-clause-crash : goal.returns-clause-crash
returns-clause-crash g c =
    read_survives c.args.sql.now (reads_ids _ _ c.requires.1).plain (state g.S.Store c.args.conn.now) (state g.S.Store c.query_all.new.self) c.query_all.ensures.survives

pub returns-in_err-rows-clause-left : goal.returns-in_err-rows-clause-left
returns-in_err-rows-clause-left g c has clean is = failed_left c.args.sql.now _ (state g.S.Store c.args.conn.now) (state g.S.Store c.query_all.new.self) _ (c.in_err-rows.ensures.err clean) is

pub returns-in_err-rows-clause-caused : goal.returns-in_err-rows-clause-caused
returns-in_err-rows-clause-caused g c clean =
    let why = ids_caused c.args.sql.now (c.requires.0, c.requires.1) (state g.S.Store c.args.conn.now) (state g.S.Store c.query_all.new.self) _ (c.in_err-rows.ensures.err clean) in
    handed c.from_residual.result c.in_err-rows.field-0.0 _ c.from_residual.ensures.1 why

pub returns-in_err-ids-clause-left : goal.returns-in_err-ids-clause-left
returns-in_err-ids-clause-left g c has clean is =
    left_same (state g.S.Store c.args.conn.now) (state g.S.Store c.query_all.new.self)
    (read_same c.args.sql.now (reads_ids _ _ c.requires.1).plain (state g.S.Store c.args.conn.now) (state g.S.Store c.query_all.new.self) c.in_ok-rows.rows.items has (c.in_ok-rows.ensures.ok clean))

pub returns-in_err-ids-clause-caused : goal.returns-in_err-ids-clause-caused
returns-in_err-ids-clause-caused g c clean =
    let old = state g.S.Store c.args.conn.now in
    let new = state g.S.Store c.query_all.new.self in
    let rows = c.in_ok-rows.rows.items in
    let why = read_caused ShowsId old new rows c.as_slice.result.now c.as_slice.ensures.value (λ can. ids_shown old new rows can c.args.sql.now c.requires.0 c.requires.1 (c.in_ok-rows.ensures.ok clean)) _ c.in_err-ids.ensures.unread in
    handed c.from_residual-in_err-ids.result c.in_err-ids.field-0.0 _ c.from_residual-in_err-ids.ensures.1 why

pub returns-then-are_rising-clause-last : goal.returns-then-are_rising-clause-last
returns-then-are_rising-clause-last g c clean has =
    rw c.last_of.ensures (λ tree asks.
    subst (λ (ids : List ℕ). IsGreatest ((state g.S.Store c.args.conn.now).now.trees tree) (slice_index ids (length ids - 1))) (sym c.as_slice-then-are_rising.ensures.value)
    (greatest c.args.sql.now tree asks (state g.S.Store c.args.conn.now) (state g.S.Store c.query_all.new.self) c.in_ok-rows.rows.items c.in_ok-ids.ids.items has (c.in_ok-rows.ensures.ok clean)
    (sym (ap (map one) c.as_slice.ensures.value) ∙ c.in_ok-ids.ensures.value) (subst IsStrictlyIncreasing c.as_slice-2.ensures.value (c.if-are_rising.ensures.yes refl)) c.in_ok-ids.ensures.fits))

pub returns-then-are_rising-clause-left : goal.returns-then-are_rising-clause-left
returns-then-are_rising-clause-left g c has clean is =
    left_same (state g.S.Store c.args.conn.now) (state g.S.Store c.query_all.new.self)
    (read_same c.args.sql.now (reads_ids _ _ c.requires.1).plain (state g.S.Store c.args.conn.now) (state g.S.Store c.query_all.new.self) c.in_ok-rows.rows.items has (c.in_ok-rows.ensures.ok clean))

pub returns-clause-left : goal.returns-clause-left
returns-clause-left g c has clean is =
    left_same (state g.S.Store c.args.conn.now) (state g.S.Store c.query_all.new.self)
    (read_same c.args.sql.now (reads_ids _ _ c.requires.1).plain (state g.S.Store c.args.conn.now) (state g.S.Store c.query_all.new.self) c.in_ok-rows.rows.items has (c.in_ok-rows.ensures.ok clean))

pub returns-clause-caused : goal.returns-clause-caused
returns-clause-caused g c clean = λ other ready can.
    let old = state g.S.Store c.args.conn.now in
    let new = state g.S.Store c.query_all.new.self in
    let did = c.in_ok-rows.ensures.ok clean in
    absurd (c.are_rising.ensures.no c.if-are_rising.false (subst IsStrictlyIncreasing (sym c.as_slice-2.ensures.value)
    (ids_rise c.args.sql.now c.requires.0 c.requires.1 old new c.in_ok-rows.rows.items c.in_ok-ids.ids.items can.holds.schema_is did (sym (ap (map one) c.as_slice.ensures.value) ∙ c.in_ok-ids.ensures.value)
    (keyed_in c.args.sql.now c.requires.0 c.requires.1 old.now can.holds))))

use Rattle.std.proofs.Common.{◌≡◌, List, [], Some, None, IsTrue, refl, map, sym, subst, ◌∙◌, rules, arith}
use Rattle.sqlite.specs.State.{HasCleanDisk, Survives, CommitsShowing}
use Rattle.sqlite.specs.declared.error.Error.TheVariants.{SqliteFailure}
use Rattle.sqlite.specs.declared.error.ErrorCode.TheVariants.{OutOfMemory}
use Rattle.sqlite.specs.Held.{state}
use Rattle.sqlite.specs.Given.{Advances, row_if}
use Rattle.sqlite_tables.specs.Tables.{Span}
use Rattle.sqlite_tables.specs.Stored.{span_in}
use Rattle.sqlite_tables.proofs.Texts.{rows_text, rows_plain}
use Rattle.sqlite_tables.proofs.LoadLemmas.{read_survives}
use Rattle.sqlite_tables.proofs.Streaming.{HasRead, survives_step, map_pushed, reads_none, reads_more, reads_all}
use Rattle.sqlite_tables.proofs.TableReads.{refused_fails, handed, left_at, failed_at, left_same, failed_left, read_left, advance_left, spans_caused, advance_caused, span_caused}
use Rattle.sqlite_tables.proofs.loading.load_spans.Goals as goal

pub returns-in_err-rows-clause-crash : goal.returns-in_err-rows-clause-crash
returns-in_err-rows-clause-crash g c =
    let old = state g.S.Store c.args.conn.now in
    let new = state g.S.Store c.query.follows.lender-at-none in
    let held = c.query.follows.holds-at-none in
    let kept : Survives old new (CommitsShowing rows_text [] old) = search rules in
    read_survives rows_text rows_plain old new kept

pub rows-init : goal.rows-init
rows-init g c =
    let made = c.in_ok-rows.ensures in
    record {
      same_reference = refl;
      mode = made.mode;
      crash = read_survives rows_text rows_plain _ _ made.survives;
      read = λ clean has. rw c.new-spans.ensures.items (reads_none g.S.Store c.args.conn.now has c.in_ok-rows.rows.conn.now (made.begun clean));
    }

pub returns-in_err-advance-clause-crash : goal.returns-in_err-advance-clause-crash
returns-in_err-advance-clause-crash g c = survives_step _ (state g.S.Store c.rows.rows.conn.now) (state g.S.Store c.advance.new.self.conn.now) _ c.rows.invariant.crash c.advance.ensures.survives (search rules)

pub returns-in_default-clause-crash : goal.returns-in_default-clause-crash
returns-in_default-clause-crash g c = survives_step _ (state g.S.Store c.rows.rows.conn.now) (state g.S.Store c.advance.new.self.conn.now) _ c.rows.invariant.crash c.advance.ensures.survives (search rules)

pub returns-in_err-read_span-clause-crash : goal.returns-in_err-read_span-clause-crash
returns-in_err-read_span-clause-crash g c = survives_step _ (state g.S.Store c.rows.rows.conn.now) (state g.S.Store c.advance.new.self.conn.now) _ c.rows.invariant.crash c.advance.ensures.survives (search rules)

pub returns-in_err-push-clause-crash : goal.returns-in_err-push-clause-crash
returns-in_err-push-clause-crash g c = survives_step _ (state g.S.Store c.rows.rows.conn.now) (state g.S.Store c.advance.new.self.conn.now) _ c.rows.invariant.crash c.advance.ensures.survives (search rules)

pub returns-in_default-clause-found : goal.returns-in_default-clause-found
returns-in_default-clause-found g c clean has live =
    let now = c.advance.new.self.conn.now in
    let late : HasCleanDisk (state g.S.Store now) = search rules in
    let read = c.rows.invariant.read (omega (arith, c.advance.ensures.survives.clean, late)) has in
    let last : None ≡ row_if c.advance.new.self.has_row now = search rules in
    let on = subst (Advances g.S.Store c.rows.rows.conn.now now) (sym last) (c.in_ok-advance.ensures.ok late) in
    reads_all g.S.Store c.args.conn.now has c.rows.rows.conn.now now (map span_in c.rows.spans.items) read on live

pub rows-preserved : goal.rows-preserved
rows-preserved g c =
    let now = c.advance.new.self.conn.now in
    let row = c.in-Some.row.now in
    let next : Some row ≡ row_if c.advance.new.self.has_row now = search rules in
    record {
      same_reference = c.in_ok-advance.ensures.same_reference ∙ c.rows.invariant.same_reference;
      mode = λ idle. c.advance.ensures.mode (c.rows.invariant.mode idle);
      crash = survives_step _ _ _ _ c.rows.invariant.crash c.advance.ensures.survives refl;
      read = λ late has.
          let read = c.rows.invariant.read (omega (arith, c.advance.ensures.survives.clean, late)) has in
          let on = subst (Advances g.S.Store c.rows.rows.conn.now now) (sym next) (c.in_ok-advance.ensures.ok late) in
          let P : List Span → Type 0 = HasRead g.S.Store c.args.conn.now now in
          subst P (sym (map_pushed span_in c.rows.spans.items c.push.new.self.items c.in_ok-read_span.field-0 c.in_ok-push.ensures.items))
          (reads_more g.S.Store c.args.conn.now has c.rows.rows.conn.now now (map span_in c.rows.spans.items) row (span_in c.in_ok-read_span.field-0) read on (c.in_ok-advance.ensures.same late) c.in_ok-read_span.ensures.value);
    }

pub returns-in_err-rows-clause-left : goal.returns-in_err-rows-clause-left
returns-in_err-rows-clause-left g c has clean is =
    let old = state g.S.Store c.args.conn.now in
    let new = state g.S.Store c.query.follows.lender-at-none in
    let fails = refused_fails g.S.Store rows_text c.args.conn.now c.query.follows.lender-at-none c.query.result c.in_err-rows.field-0.0 c.in_err-rows.was c.query.follows.holds-at-none clean in
    failed_left rows_text [] old new _ fails is

pub returns-in_err-rows-clause-caused : goal.returns-in_err-rows-clause-caused
returns-in_err-rows-clause-caused g c clean =
    let old = state g.S.Store c.args.conn.now in
    let new = state g.S.Store c.query.follows.lender-at-none in
    let fails = refused_fails g.S.Store rows_text c.args.conn.now c.query.follows.lender-at-none c.query.result c.in_err-rows.field-0.0 c.in_err-rows.was c.query.follows.holds-at-none clean in
    handed c.from_residual.result c.in_err-rows.field-0.0 _ c.from_residual.ensures.1 (spans_caused old new _ fails)

pub returns-in_err-advance-clause-left : goal.returns-in_err-advance-clause-left
returns-in_err-advance-clause-left g c has clean is =
    let now = c.advance.new.self.conn.now in
    let late : HasCleanDisk (state g.S.Store now) = search rules in
    let open_now : IsTrue (state g.S.Store now).is_open = search rules in
    left_at _ (state g.S.Store now) _ (advance_left g.S.Store c.args.conn.now c.rows.rows.conn.now now (map span_in c.rows.spans.items) c.rows.invariant.crash.counts c.rows.invariant.crash.limit (c.rows.invariant.read (omega (arith, c.advance.ensures.survives.clean, late))) c.in_err-advance.field-0.0 (c.in_err-advance.ensures.kept late) has open_now) (search rules)

pub returns-in_err-advance-clause-caused : goal.returns-in_err-advance-clause-caused
returns-in_err-advance-clause-caused g c clean =
    let now = c.advance.new.self.conn.now in
    let late : HasCleanDisk (state g.S.Store now) = search rules in
    let why = advance_caused g.S.Store c.args.conn.now c.rows.rows.conn.now now (map span_in c.rows.spans.items) c.rows.invariant.crash.counts c.rows.invariant.crash.limit (c.rows.invariant.read (omega (arith, c.advance.ensures.survives.clean, late))) c.in_err-advance.field-0.0 (c.in_err-advance.ensures.err late) in
    handed c.from_residual-in_err-advance.result c.in_err-advance.field-0.0 _ c.from_residual-in_err-advance.ensures.1 (λ other. failed_at _ (state g.S.Store now) (state g.S.Store c.conn-in_err-advance-1.given.0) (why other) (search rules))

pub returns-in_err-read_span-clause-caused : goal.returns-in_err-read_span-clause-caused
returns-in_err-read_span-clause-caused g c clean =
    let now = c.advance.new.self.conn.now in
    let late : HasCleanDisk (state g.S.Store now) = search rules in
    let row = c.in-Some.row.now in
    let next : Some row ≡ row_if c.advance.new.self.has_row now = search rules in
    let on = subst (Advances g.S.Store c.rows.rows.conn.now now) (sym next) (c.in_ok-advance.ensures.ok late) in
    let why = span_caused g.S.Store c.args.conn.now c.rows.rows.conn.now now (map span_in c.rows.spans.items) c.rows.invariant.crash.counts c.rows.invariant.crash.limit (c.rows.invariant.read (omega (arith, c.advance.ensures.survives.clean, late))) row on (c.in_ok-advance.ensures.same late) c.in_err-read_span.field-0.0 c.in_err-read_span.ensures.unread in
    handed c.from_residual-in_err-read_span.result c.in_err-read_span.field-0.0 _ c.from_residual-in_err-read_span.ensures.1 (λ other. failed_at _ (state g.S.Store now) (state g.S.Store c.conn-in_err-read_span-1.given.0) (why other) (search rules))

pub returns-in_err-push-clause-caused : goal.returns-in_err-push-clause-caused
returns-in_err-push-clause-caused g c clean = handed c.from_residual-in_err-push.result (SqliteFailure OutOfMemory) _ c.from_residual-in_err-push.ensures.1 (λ other. absurd (other refl))

pub returns-clause-left : goal.returns-clause-left
returns-clause-left g c has clean is =
    let now = c.rows.rows.conn.now in
    let late : HasCleanDisk (state g.S.Store now) = search rules in
    left_at _ (state g.S.Store now) _ (left_same (state g.S.Store c.args.conn.now) (state g.S.Store now) (c.rows.invariant.read late has).same) (search rules)

pub returns-in_default-clause-left : goal.returns-in_default-clause-left
returns-in_default-clause-left g c has clean is =
    let now = c.advance.new.self.conn.now in
    let late : HasCleanDisk (state g.S.Store now) = search rules in
    left_at _ (state g.S.Store now) _ (read_left g.S.Store c.args.conn.now c.rows.rows.conn.now now (map span_in c.rows.spans.items) c.rows.invariant.crash.counts c.rows.invariant.crash.limit (c.rows.invariant.read (omega (arith, c.advance.ensures.survives.clean, late))) (c.in_ok-advance.ensures.same late) has) (search rules)

pub returns-in_err-read_span-clause-left : goal.returns-in_err-read_span-clause-left
returns-in_err-read_span-clause-left g c has clean is =
    let now = c.advance.new.self.conn.now in
    let late : HasCleanDisk (state g.S.Store now) = search rules in
    left_at _ (state g.S.Store now) _ (read_left g.S.Store c.args.conn.now c.rows.rows.conn.now now (map span_in c.rows.spans.items) c.rows.invariant.crash.counts c.rows.invariant.crash.limit (c.rows.invariant.read (omega (arith, c.advance.ensures.survives.clean, late))) (c.in_ok-advance.ensures.same late) has) (search rules)

pub returns-in_err-push-clause-left : goal.returns-in_err-push-clause-left
returns-in_err-push-clause-left g c has clean is =
    let now = c.advance.new.self.conn.now in
    let late : HasCleanDisk (state g.S.Store now) = search rules in
    left_at _ (state g.S.Store now) _ (read_left g.S.Store c.args.conn.now c.rows.rows.conn.now now (map span_in c.rows.spans.items) c.rows.invariant.crash.counts c.rows.invariant.crash.limit (c.rows.invariant.read (omega (arith, c.advance.ensures.survives.clean, late))) (c.in_ok-advance.ensures.same late) has) (search rules)

use Rattle.std.proofs.Common.{arith, ◌≡◌, ◌∙◌, ap, subst, inl, inr, refl}
use Rattle.sqlite.specs.State.{HasCleanDisk}
use Rattle.sqlite.specs.Held.{state}
use Rattle.sqlite.specs.Effect.{Database}
use Rattle.sqlite_tables.specs.Reading.{IsGreatest}
use Rattle.sqlite_tables.proofs.Greatest.{last_of_both}
use Rattle.sqlite_tables.proofs.Found.{then_reads}
use Rattle.sqlite_tables.proofs.TableReads.{handed, then_caused, then_left}
use Rattle.sqlite_tables.proofs.loading.check_tables.Goals as goal

pub check_rowids-requires-2 : goal.check_rowids-requires-2
check_rowids-requires-2 g c = (2, inr (inl (refl, refl)))

pub check_rowids-requires-3 : goal.check_rowids-requires-3
check_rowids-requires-3 g c = (3, inr (inr (refl, refl)))

pub returns-in_err-check_rowids-clause-crash : goal.returns-in_err-check_rowids-clause-crash
returns-in_err-check_rowids-clause-crash g c =
    then_reads _ (state g.S.Store c.check_rowids.new.conn) _ c.check_rowids.ensures.crash c.in_ok-last.ensures.same c.check_rowids-2.ensures.crash

pub returns-in_err-check_rowids-clause-left : goal.returns-in_err-check_rowids-clause-left
returns-in_err-check_rowids-clause-left g c has clean is = (then_left (state g.S.Store c.args.conn.now) (state g.S.Store c.check_rowids.new.conn) (state g.S.Store c.check_rowids-2.new.conn) (λ has. c.in_ok-last.ensures.same (omega (arith, clean, c.check_rowids-2.ensures.crash.clean)) has) (λ has is. c.check_rowids-2.ensures.left has clean is)) has is

pub returns-in_err-check_rowids-clause-caused : goal.returns-in_err-check_rowids-clause-caused
returns-in_err-check_rowids-clause-caused g c clean =
    let why = (then_caused (state g.S.Store c.args.conn.now) (state g.S.Store c.check_rowids.new.conn) (state g.S.Store c.check_rowids-2.new.conn) _ (λ has. c.in_ok-last.ensures.same (omega (arith, clean, c.check_rowids-2.ensures.crash.clean)) has) c.check_rowids.ensures.crash.counts c.check_rowids.ensures.crash.limit (c.in_err-check_rowids.ensures.caused clean)) in
    handed c.from_residual-in_err-check_rowids.result c.in_err-check_rowids.field-0.0 _ c.from_residual-in_err-check_rowids.ensures.1 why

pub returns-in_err-check_rowids-2-clause-left : goal.returns-in_err-check_rowids-2-clause-left
returns-in_err-check_rowids-2-clause-left g c has clean is = (then_left (state g.S.Store c.args.conn.now) (state g.S.Store c.check_rowids.new.conn) (state g.S.Store c.check_rowids-3.new.conn) (λ has. c.in_ok-last.ensures.same (omega (arith, clean, c.check_rowids-2.ensures.crash.clean, c.check_rowids-3.ensures.crash.clean)) has) (then_left (state g.S.Store c.check_rowids.new.conn) (state g.S.Store c.check_rowids-2.new.conn) (state g.S.Store c.check_rowids-3.new.conn) (λ has. c.in_ok-check_rowids.ensures.same (omega (arith, clean, c.check_rowids-3.ensures.crash.clean)) has) (λ has is. c.check_rowids-3.ensures.left has clean is))) has is

pub returns-in_err-check_rowids-2-clause-caused : goal.returns-in_err-check_rowids-2-clause-caused
returns-in_err-check_rowids-2-clause-caused g c clean =
    let why = (then_caused (state g.S.Store c.args.conn.now) (state g.S.Store c.check_rowids.new.conn) (state g.S.Store c.check_rowids-3.new.conn) _ (λ has. c.in_ok-last.ensures.same (omega (arith, clean, c.check_rowids-2.ensures.crash.clean, c.check_rowids-3.ensures.crash.clean)) has) c.check_rowids.ensures.crash.counts c.check_rowids.ensures.crash.limit (then_caused (state g.S.Store c.check_rowids.new.conn) (state g.S.Store c.check_rowids-2.new.conn) (state g.S.Store c.check_rowids-3.new.conn) _ (λ has. c.in_ok-check_rowids.ensures.same (omega (arith, clean, c.check_rowids-3.ensures.crash.clean)) has) c.check_rowids-2.ensures.crash.counts c.check_rowids-2.ensures.crash.limit (c.in_err-check_rowids-2.ensures.caused clean))) in
    handed c.from_residual-in_err-check_rowids-2.result c.in_err-check_rowids-2.field-0.0 _ c.from_residual-in_err-check_rowids-2.ensures.1 why

pub returns-clause-left : goal.returns-clause-left
returns-clause-left g c has clean is = (then_left (state g.S.Store c.args.conn.now) (state g.S.Store c.check_rowids.new.conn) (state g.S.Store c.check_rowids-3.new.conn) (λ has. c.in_ok-last.ensures.same (omega (arith, clean, c.check_rowids-2.ensures.crash.clean, c.check_rowids-3.ensures.crash.clean)) has) (then_left (state g.S.Store c.check_rowids.new.conn) (state g.S.Store c.check_rowids-2.new.conn) (state g.S.Store c.check_rowids-3.new.conn) (λ has. c.in_ok-check_rowids.ensures.same (omega (arith, clean, c.check_rowids-3.ensures.crash.clean)) has) (λ has is. c.check_rowids-3.ensures.left has clean is))) has is

pub returns-in_err-check_rowids-2-clause-crash : goal.returns-in_err-check_rowids-2-clause-crash
returns-in_err-check_rowids-2-clause-crash g c =
    then_reads _ (state g.S.Store c.check_rowids.new.conn) _ c.check_rowids.ensures.crash c.in_ok-last.ensures.same
    (then_reads _ (state g.S.Store c.check_rowids-2.new.conn) _ c.check_rowids-2.ensures.crash c.in_ok-check_rowids.ensures.same c.check_rowids-3.ensures.crash)

pub returns-clause-crash : goal.returns-clause-crash
returns-clause-crash g c =
    then_reads _ (state g.S.Store c.check_rowids.new.conn) _ c.check_rowids.ensures.crash c.in_ok-last.ensures.same
    (then_reads _ (state g.S.Store c.check_rowids-2.new.conn) _ c.check_rowids-2.ensures.crash c.in_ok-check_rowids.ensures.same c.check_rowids-3.ensures.crash)

pub returns-clause-last : goal.returns-clause-last
returns-clause-last g c clean has =
    let g0 = g.S.Store in
    let second : HasCleanDisk (state g0 c.check_rowids-2.new.conn) = omega (arith, c.check_rowids-3.ensures.crash.clean, clean) in
    let first : HasCleanDisk (state g0 c.check_rowids.new.conn) = omega (arith, c.check_rowids-2.ensures.crash.clean, second) in
    let one = c.in_ok-last.ensures.same first has in
    let has2 = ap (λ (d : Database). d.schema) one.0.now_is ∙ has in
    let two = c.in_ok-check_rowids.ensures.same second has2 in
    let now : (state g0 c.check_rowids-2.new.conn).now ≡ (state g0 c.args.conn.now).now = two.0.now_is ∙ one.0.now_is in
    let spans = c.in_ok-last.ensures.last first has 0 (inl (refl, refl)) in
    let entries = c.in_ok-check_rowids-2.ensures.last clean (ap (λ (d : Database). d.schema) now ∙ has) 3 (inr (inr (refl, refl))) in
    last_of_both (state g0 c.args.conn.now).now.trees _ _ spans (subst (λ (d : Database). IsGreatest (d.trees 3) c.in_ok-check_rowids-2.field-0) now entries)

use Rattle.std.proofs.Common.{◌+◌, length, sym, subst, arith}
use Rattle.sqlite.specs.Held.{state}
use Rattle.sqlite.specs.Command.TheVariants.{Insert}
use Rattle.sqlite.specs.Source.TheVariants.{Values}
use Rattle.sqlite_tables.specs.Caused.{spans_of}
use Rattle.sqlite_tables.specs.Format.{schema}
use Rattle.sqlite_tables.specs.Steps.{Alters}
use Rattle.sqlite_tables.specs.inside.Together.{CanBeginAll, all_values, with_spans}
use Rattle.sqlite_tables.proofs.Texts.{eight_text}
use Rattle.sqlite_tables.proofs.Together.{AddsRows, eight_adds, row_terms}
use Rattle.sqlite_tables.proofs.Inside.{does_inside, quiet_inside, insert_all_does}
use Rattle.sqlite_tables.proofs.Fixed.Together.{spans_caused}
use Rattle.sqlite_tables.proofs.Refusing.{caused_inside, stays_inside}
use Rattle.sqlite_tables.proofs.statement.insert_spans.Goals as goal

pub returns-clause-done : goal.returns-clause-done
returns-clause-done g c =
    let rev = c.args.rev in
    let first = c.args.first in
    let events = c.args.events.now in
    does_inside g.S.Store c.args.tx.now.conn c.execute.new.self.conn c.execute.result c.execute.ensures.ended eight_text (all_values rev first events)
    (λ clean inside. rw c.fill.ensures at (c.execute.ensures.runs clean inside)) (Alters (with_spans (spans_of rev events)) (first + 7))
    (λ count. insert_all_does (state g.S.Store c.args.tx.now.conn.now) (state g.S.Store c.execute.new.self.conn.now) count rev first events eight_text (subst (λ n. AddsRows n eight_text) (sym c.requires.eight) eight_adds) (first + 7)
    (omega (arith, c.requires.eight)))

pub returns-clause-quiet : goal.returns-clause-quiet
returns-clause-quiet g c = quiet_inside g.S.Store c.args.tx.now.conn c.execute.new.self.conn c.execute.result c.execute.ensures.ended _ _ c.execute.ensures.runs c.execute.ensures.survives

pub returns-clause-caused : goal.returns-clause-caused
returns-clause-caused g c =
    let rev = c.args.rev in
    let first = c.args.first in
    let events = c.args.events.now in
    let params = all_values rev first events in
    let old = state g.S.Store c.args.tx.now.conn.now in
    let new = state g.S.Store c.execute.new.self.conn.now in
    let adds : AddsRows (length events) eight_text = subst (λ n. AddsRows n eight_text) (sym c.requires.eight) eight_adds in
    caused_inside g.S.Store c.args.tx.now.conn c.execute.new.self.conn c.execute.result eight_text params
    (λ clean inside. rw c.fill.ensures at (c.execute.ensures.runs clean inside)) (CanBeginAll (spans_of rev events) rev first)
    (λ e other ready can. spans_caused old rev first events can.contents can.top can.store.holds can.store.sound can.store.numbered can.above (omega (arith, c.requires.fits, c.requires.eight)) can.positive can.before can.distinct
    ready.unlimited can.short eight_text adds new e other ready.is_open)
    (λ can. stays_inside eight_text params old schema can.store.holds.schema_is (Insert 0 (Values (row_terms 1 (length events)) 7)) adds.is tt)

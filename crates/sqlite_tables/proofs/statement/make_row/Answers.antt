use Rattle.std.proofs.Common.{[]}
use Rattle.sqlite.specs.Held.{state}
use Rattle.sqlite_tables.specs.Steps.{Founds, HasNone, HasRow}
use Rattle.sqlite_tables.specs.Format.{no_schema, row_text}
use Rattle.sqlite_tables.proofs.Inside.{does_inside, quiet_inside, make_row_does}
use Rattle.sqlite.specs.Command.TheVariants.{CreateTable}
use Rattle.sqlite_tables.proofs.Fixed.Creation.{make_row_fails}
use Rattle.sqlite_tables.proofs.Texts.{make_row_is}
use Rattle.sqlite_tables.proofs.Refusing.{caused_inside, stays_inside}
use Rattle.sqlite_tables.proofs.statement.make_row.Goals as goal

pub returns-clause-done : goal.returns-clause-done
returns-clause-done g c =
    does_inside g.S.Store c.args.tx.now.conn c.execute.new.self.conn c.execute.result c.execute.ensures.ended row_text []
    c.execute.ensures.runs (Founds HasNone HasRow)
    (λ count. make_row_does (state g.S.Store c.args.tx.now.conn.now) (state g.S.Store c.execute.new.self.conn.now) count)

pub returns-clause-quiet : goal.returns-clause-quiet
returns-clause-quiet g c = quiet_inside g.S.Store c.args.tx.now.conn c.execute.new.self.conn c.execute.result c.execute.ensures.ended _ _ c.execute.ensures.runs c.execute.ensures.survives

pub returns-clause-caused : goal.returns-clause-caused
returns-clause-caused g c =
    let old = state g.S.Store c.args.tx.now.conn.now in
    let new = state g.S.Store c.execute.new.self.conn.now in
    caused_inside g.S.Store c.args.tx.now.conn c.execute.new.self.conn c.execute.result row_text [] c.execute.ensures.runs HasNone
    (λ e other ready is ran. make_row_fails old new e other ready.is_open is ran) (λ is. stays_inside row_text [] old no_schema is CreateTable make_row_is.0 tt)

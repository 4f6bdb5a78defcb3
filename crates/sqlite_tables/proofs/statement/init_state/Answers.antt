use Rattle.std.proofs.Common.{w64}
use Rattle.std.proofs.lemmas.Int.{to_z_pos}
use Rattle.sqlite.specs.Held.{state}
use Rattle.sqlite_tables.specs.Steps.{Founds, HasNew, HasTables}
use Rattle.sqlite_tables.proofs.Texts.{init_text}
use Rattle.sqlite_tables.proofs.CreateLemmas.{init_params}
use Rattle.sqlite_tables.proofs.Inside.{does_inside, open_inside, quiet_inside, init_does}
use Rattle.sqlite.specs.Command.TheVariants.{Insert}
use Rattle.sqlite.specs.Source.TheVariants.{Values}
use Rattle.sqlite_tables.specs.Format.{schema}
use Rattle.sqlite_tables.proofs.Fixed.FirstValues.{init_fails}
use Rattle.sqlite_tables.proofs.Texts.{init_is, init_terms}
use Rattle.sqlite_tables.proofs.Refusing.{caused_inside, stays_inside}
use Rattle.sqlite_tables.proofs.statement.init_state.Goals as goal

pub returns-clause-done : goal.returns-clause-done
returns-clause-done g c =
    does_inside g.S.Store c.args.tx.now.conn c.execute.new.self.conn c.execute.result c.execute.ensures.ended init_text (init_params c.args.number)
    (λ clean inside. rw (c.params-to_sql.ensures, to_z_pos w64 c.args.number c.requires) at (c.execute.ensures.runs clean inside)) (Founds HasTables (HasNew c.args.number))
    (λ count. init_does (state g.S.Store c.args.tx.now.conn.now) (state g.S.Store c.execute.new.self.conn.now) count c.args.number)

pub returns-clause-quiet : goal.returns-clause-quiet
returns-clause-quiet g c = quiet_inside g.S.Store c.args.tx.now.conn c.execute.new.self.conn c.execute.result c.execute.ensures.ended _ _ c.execute.ensures.runs c.execute.ensures.survives

pub returns-clause-was_open : goal.returns-clause-was_open
returns-clause-was_open g c = open_inside g.S.Store c.args.tx.now.conn c.execute.new.self.conn c.execute.result c.execute.ensures.ended _ _ c.execute.ensures.runs

pub returns-clause-caused : goal.returns-clause-caused
returns-clause-caused g c =
    let number = c.args.number in
    let old = state g.S.Store c.args.tx.now.conn.now in
    caused_inside g.S.Store c.args.tx.now.conn c.execute.new.self.conn c.execute.result init_text (init_params number)
    (λ clean inside. rw (c.params-to_sql.ensures, to_z_pos w64 number c.requires) at (c.execute.ensures.runs clean inside)) HasTables
    (λ e other ready is ran. init_fails old (state g.S.Store c.execute.new.self.conn.now) number e other ready.is_open ready.unlimited is ran)
    (λ is. stays_inside init_text (init_params number) old schema is.schema_is (Insert 2 (Values init_terms 3)) init_is tt)

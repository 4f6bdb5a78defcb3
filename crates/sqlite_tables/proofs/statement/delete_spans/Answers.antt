use Rattle.std.proofs.Common.{w64}
use Rattle.std.proofs.lemmas.Int.{to_z_pos}
use Rattle.sqlite.specs.Held.{state}
use Rattle.sqlite_tables.specs.Steps.{Alters, without_past}
use Rattle.sqlite.specs.Command.TheVariants.{Delete}
use Rattle.sqlite_tables.specs.Caused.{CanDrop}
use Rattle.sqlite_tables.specs.Format.{schema}
use Rattle.sqlite_tables.proofs.Fixed.Deleting.{drop_caused}
use Rattle.sqlite_tables.proofs.Refusing.{caused_inside, stays_inside}
use Rattle.sqlite_tables.proofs.Texts.{alone, drop_is, drop_query, drop_text}
use Rattle.sqlite_tables.proofs.Dropping.{past_params}
use Rattle.sqlite_tables.proofs.Inside.{does_inside, quiet_inside, drop_spans_does}
use Rattle.sqlite_tables.proofs.statement.delete_spans.Goals as goal

pub returns-clause-done : goal.returns-clause-done
returns-clause-done g c =
    does_inside g.S.Store c.args.tx.now.conn c.execute.new.self.conn c.execute.result c.execute.ensures.ended drop_text (past_params c.args.floor)
    (λ clean inside. rw (c.params-to_sql.ensures, to_z_pos w64 c.args.floor c.requires) at (c.execute.ensures.runs clean inside)) (Alters (without_past c.args.floor) 0)
    (λ count. drop_spans_does (state g.S.Store c.args.tx.now.conn.now) (state g.S.Store c.execute.new.self.conn.now) count c.args.floor)

pub returns-clause-quiet : goal.returns-clause-quiet
returns-clause-quiet g c = quiet_inside g.S.Store c.args.tx.now.conn c.execute.new.self.conn c.execute.result c.execute.ensures.ended _ _ c.execute.ensures.runs c.execute.ensures.survives

pub returns-clause-caused : goal.returns-clause-caused
returns-clause-caused g c =
    let old = state g.S.Store c.args.tx.now.conn.now in
    caused_inside g.S.Store c.args.tx.now.conn c.execute.new.self.conn c.execute.result drop_text (past_params c.args.floor)
    (λ clean inside. rw (c.params-to_sql.ensures, to_z_pos w64 c.args.floor c.requires) at (c.execute.ensures.runs clean inside)) CanDrop
    (λ e other ready can. drop_caused old can.contents can.store.holds can.store.sound ready.unlimited c.args.floor (state g.S.Store c.execute.new.self.conn.now) e other ready.is_open)
    (λ can. stays_inside drop_text (past_params c.args.floor) old schema can.store.holds.schema_is (Delete 0 (alone drop_query)) drop_is tt)

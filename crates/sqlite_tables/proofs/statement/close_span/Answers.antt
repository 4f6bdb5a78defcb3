use Rattle.std.proofs.Common.{w64}
use Rattle.std.proofs.lemmas.Int.{to_z_pos}
use Rattle.sqlite.specs.Held.{state}
use Rattle.sqlite_tables.specs.Steps.{Alters, with_closed}
use Rattle.sqlite_tables.specs.Stored.{span_between}
use Rattle.sqlite_tables.proofs.Texts.{close_text}
use Rattle.sqlite_tables.proofs.Close.{close_params}
use Rattle.sqlite_tables.proofs.Inside.{does_inside, quiet_inside, close_does}
use Rattle.sqlite.specs.Command.TheVariants.{Update}
use Rattle.sqlite_tables.specs.Caused.{CanClose}
use Rattle.sqlite_tables.specs.Format.{schema}
use Rattle.sqlite_tables.proofs.Fixed.Closing.{close_caused}
use Rattle.sqlite_tables.proofs.Texts.{alone, close_is, close_query}
use Rattle.sqlite_tables.proofs.Refusing.{caused_inside, stays_inside}
use Rattle.sqlite_tables.proofs.statement.close_span.Goals as goal

pub returns-clause-done : goal.returns-clause-done
returns-clause-done g c =
    does_inside g.S.Store c.args.tx.now.conn c.execute.new.self.conn c.execute.result c.execute.ensures.ended close_text (close_params (span_between c.args.tuple.now c.args.rev 0) c.args.rev)
    (λ clean inside. rw (c.params-to_sql.ensures, c.params-to_sql-2.ensures, c.params-to_sql-3.ensures, c.params-to_sql-4.ensures, c.params-to_sql-5.ensures, c.as_str-namespace.ensures.value, c.as_str-object.ensures.value, c.as_str-relation.ensures.value, c.as_str-subject.ensures.value, to_z_pos w64 c.args.rev c.requires) at (c.execute.ensures.runs clean inside)) (Alters (with_closed (span_between c.args.tuple.now c.args.rev 0) c.args.rev) 0)
    (λ count. close_does (state g.S.Store c.args.tx.now.conn.now) (state g.S.Store c.execute.new.self.conn.now) count (span_between c.args.tuple.now c.args.rev 0) c.args.rev)

pub returns-clause-quiet : goal.returns-clause-quiet
returns-clause-quiet g c = quiet_inside g.S.Store c.args.tx.now.conn c.execute.new.self.conn c.execute.result c.execute.ensures.ended _ _ c.execute.ensures.runs c.execute.ensures.survives

pub returns-clause-caused : goal.returns-clause-caused
returns-clause-caused g c =
    let s = span_between c.args.tuple.now c.args.rev 0 in
    let rev = c.args.rev in
    let old = state g.S.Store c.args.tx.now.conn.now in
    caused_inside g.S.Store c.args.tx.now.conn c.execute.new.self.conn c.execute.result close_text (close_params s rev)
    (λ clean inside. rw (c.params-to_sql.ensures, c.params-to_sql-2.ensures, c.params-to_sql-3.ensures, c.params-to_sql-4.ensures, c.params-to_sql-5.ensures, c.as_str-namespace.ensures.value, c.as_str-object.ensures.value, c.as_str-relation.ensures.value, c.as_str-subject.ensures.value, to_z_pos w64 c.args.rev c.requires) at (c.execute.ensures.runs clean inside)) (CanClose s rev)
    (λ e other ready can. close_caused old s rev can.contents can.top can.store.holds can.store.sound can.store.numbered can.fits can.before ready.unlimited can.short (state g.S.Store c.execute.new.self.conn.now) e other ready.is_open)
    (λ can. stays_inside close_text (close_params s rev) old schema can.store.holds.schema_is (Update 0 (alone close_query)) close_is tt)

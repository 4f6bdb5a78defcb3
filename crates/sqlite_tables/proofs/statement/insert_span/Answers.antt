use Rattle.std.proofs.Common.{w64}
use Rattle.std.proofs.lemmas.Int.{to_z_pos}
use Rattle.sqlite.specs.Held.{state}
use Rattle.sqlite_tables.specs.Steps.{Alters, with_span}
use Rattle.sqlite_tables.specs.Stored.{span_between}
use Rattle.sqlite_tables.proofs.Texts.{insert_text}
use Rattle.sqlite_tables.proofs.Insert.{insert_params}
use Rattle.sqlite_tables.proofs.Inside.{does_inside, quiet_inside, insert_does}
use Rattle.sqlite.specs.Command.TheVariants.{Insert}
use Rattle.sqlite.specs.Source.TheVariants.{Values}
use Rattle.sqlite_tables.specs.Caused.{CanBegin}
use Rattle.sqlite_tables.specs.Format.{schema}
use Rattle.sqlite_tables.proofs.Fixed.Beginning.{span_caused}
use Rattle.sqlite_tables.proofs.Texts.{insert_is, insert_terms}
use Rattle.sqlite_tables.proofs.Refusing.{caused_inside, stays_inside}
use Rattle.sqlite_tables.proofs.statement.insert_span.Goals as goal

pub returns-clause-done : goal.returns-clause-done
returns-clause-done g c =
    does_inside g.S.Store c.args.tx.now.conn c.execute.new.self.conn c.execute.result c.execute.ensures.ended insert_text (insert_params c.args.rowid (span_between c.args.tuple.now c.args.rev 0))
    (λ clean inside. rw (c.params-to_sql.ensures, c.params-to_sql-2.ensures, c.params-to_sql-3.ensures, c.params-to_sql-4.ensures, c.params-to_sql-5.ensures, c.params-to_sql-6.ensures, c.as_str-namespace.ensures.value, c.as_str-object.ensures.value, c.as_str-relation.ensures.value, c.as_str-subject.ensures.value, to_z_pos w64 c.args.rev c.requires.small, to_z_pos w64 c.args.rowid c.requires.fits) at (c.execute.ensures.runs clean inside)) (Alters (with_span (span_between c.args.tuple.now c.args.rev 0)) c.args.rowid)
    (λ count. insert_does (state g.S.Store c.args.tx.now.conn.now) (state g.S.Store c.execute.new.self.conn.now) count c.args.rowid (span_between c.args.tuple.now c.args.rev 0))

pub returns-clause-quiet : goal.returns-clause-quiet
returns-clause-quiet g c = quiet_inside g.S.Store c.args.tx.now.conn c.execute.new.self.conn c.execute.result c.execute.ensures.ended _ _ c.execute.ensures.runs c.execute.ensures.survives

pub returns-clause-caused : goal.returns-clause-caused
returns-clause-caused g c =
    let s = span_between c.args.tuple.now c.args.rev 0 in
    let rev = c.args.rev in
    let id = c.args.rowid in
    let old = state g.S.Store c.args.tx.now.conn.now in
    caused_inside g.S.Store c.args.tx.now.conn c.execute.new.self.conn c.execute.result insert_text (insert_params id s)
    (λ clean inside. rw (c.params-to_sql.ensures, c.params-to_sql-2.ensures, c.params-to_sql-3.ensures, c.params-to_sql-4.ensures, c.params-to_sql-5.ensures, c.params-to_sql-6.ensures, c.as_str-namespace.ensures.value, c.as_str-object.ensures.value, c.as_str-relation.ensures.value, c.as_str-subject.ensures.value, to_z_pos w64 c.args.rev c.requires.small, to_z_pos w64 c.args.rowid c.requires.fits) at (c.execute.ensures.runs clean inside)) (CanBegin s rev id)
    (λ e other ready can. span_caused old id s can.contents can.top can.store.holds can.store.sound can.store.numbered can.above c.requires.fits can.positive can.before ready.unlimited can.short (state g.S.Store c.execute.new.self.conn.now) e other ready.is_open)
    (λ can. stays_inside insert_text (insert_params id s) old schema can.store.holds.schema_is (Insert 0 (Values insert_terms 7)) insert_is tt)

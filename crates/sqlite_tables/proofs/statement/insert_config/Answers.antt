use Rattle.std.proofs.Common.{w64}
use Rattle.std.proofs.lemmas.Int.{to_z_pos}
use Rattle.sqlite.specs.Held.{state}
use Rattle.sqlite_tables.specs.Steps.{Alters, with_config}
use Rattle.sqlite_tables.specs.Tables.{config_at}
use Rattle.sqlite.specs.Source.TheVariants.{Values}
use Rattle.sqlite.specs.Command.TheVariants.{Insert}
use Rattle.sqlite_tables.specs.Caused.{CanAdd}
use Rattle.sqlite_tables.specs.Format.{schema}
use Rattle.sqlite_tables.proofs.Fixed.Configuring.{config_caused}
use Rattle.sqlite_tables.proofs.Refusing.{caused_inside, stays_inside}
use Rattle.sqlite_tables.proofs.Texts.{config_insert_is, config_insert_text, config_terms}
use Rattle.sqlite_tables.proofs.InsertConfig.{config_params}
use Rattle.sqlite_tables.proofs.Inside.{does_inside, quiet_inside, config_does}
use Rattle.sqlite_tables.proofs.statement.insert_config.Goals as goal

pub returns-clause-done : goal.returns-clause-done
returns-clause-done g c =
    does_inside g.S.Store c.args.tx.now.conn c.execute.new.self.conn c.execute.result c.execute.ensures.ended config_insert_text (config_params (config_at c.args.rev c.args.text.now))
    (λ clean inside. rw (c.params-to_sql.ensures, c.params-to_sql-2.ensures, to_z_pos w64 c.args.rev c.requires) at (c.execute.ensures.runs clean inside)) (Alters (with_config (config_at c.args.rev c.args.text.now)) 0)
    (λ count. config_does (state g.S.Store c.args.tx.now.conn.now) (state g.S.Store c.execute.new.self.conn.now) count (config_at c.args.rev c.args.text.now))

pub returns-clause-quiet : goal.returns-clause-quiet
returns-clause-quiet g c = quiet_inside g.S.Store c.args.tx.now.conn c.execute.new.self.conn c.execute.result c.execute.ensures.ended _ _ c.execute.ensures.runs c.execute.ensures.survives

pub returns-clause-caused : goal.returns-clause-caused
returns-clause-caused g c =
    let config = config_at c.args.rev c.args.text.now in
    let old = state g.S.Store c.args.tx.now.conn.now in
    caused_inside g.S.Store c.args.tx.now.conn c.execute.new.self.conn c.execute.result config_insert_text (config_params config)
    (λ clean inside. rw (c.params-to_sql.ensures, c.params-to_sql-2.ensures, to_z_pos w64 c.args.rev c.requires) at (c.execute.ensures.runs clean inside)) (CanAdd config)
    (λ e other ready can. config_caused old config can.contents can.newest can.store.holds can.store.sound can.up_to can.later c.requires ready.unlimited can.short (state g.S.Store c.execute.new.self.conn.now) e other ready.is_open)
    (λ can. stays_inside config_insert_text (config_params config) old schema can.store.holds.schema_is (Insert 1 (Values config_terms 3)) config_insert_is tt)

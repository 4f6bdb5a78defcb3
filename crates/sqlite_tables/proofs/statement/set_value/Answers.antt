use Rattle.std.proofs.Common.{w64}
use Rattle.std.proofs.lemmas.Int.{to_z_pos}
use Rattle.sqlite.specs.Held.{state}
use Rattle.sqlite_tables.specs.Steps.{Alters, with_entry}
use Rattle.sqlite.specs.Command.TheVariants.{Update}
use Rattle.sqlite_tables.specs.Caused.{CanSet}
use Rattle.sqlite_tables.specs.Format.{schema}
use Rattle.sqlite_tables.proofs.Fixed.Setting.{set_caused}
use Rattle.sqlite_tables.proofs.Refusing.{caused_inside, stays_inside}
use Rattle.sqlite_tables.proofs.Texts.{alone, set_is, set_query, set_text}
use Rattle.sqlite_tables.proofs.Set.{set_params}
use Rattle.sqlite_tables.proofs.Inside.{does_inside, open_inside, quiet_inside, set_does}
use Rattle.sqlite_tables.proofs.statement.set_value.Goals as goal

pub returns-clause-done : goal.returns-clause-done
returns-clause-done g c =
    does_inside g.S.Store c.args.tx.now.conn c.execute.new.self.conn c.execute.result c.execute.ensures.ended set_text (set_params c.args.key.now c.args.value)
    (λ clean inside. rw (c.params-to_sql.ensures, c.params-to_sql-2.ensures, to_z_pos w64 c.args.value c.requires) at (c.execute.ensures.runs clean inside)) (Alters (with_entry c.args.key.now c.args.value) 0)
    (λ count. set_does (state g.S.Store c.args.tx.now.conn.now) (state g.S.Store c.execute.new.self.conn.now) count c.args.key.now c.args.value)

pub returns-clause-quiet : goal.returns-clause-quiet
returns-clause-quiet g c = quiet_inside g.S.Store c.args.tx.now.conn c.execute.new.self.conn c.execute.result c.execute.ensures.ended _ _ c.execute.ensures.runs c.execute.ensures.survives

pub returns-clause-was_open : goal.returns-clause-was_open
returns-clause-was_open g c = open_inside g.S.Store c.args.tx.now.conn c.execute.new.self.conn c.execute.result c.execute.ensures.ended _ _ c.execute.ensures.runs

pub returns-clause-caused : goal.returns-clause-caused
returns-clause-caused g c =
    let key = c.args.key.now in
    let value = c.args.value in
    let old = state g.S.Store c.args.tx.now.conn.now in
    caused_inside g.S.Store c.args.tx.now.conn c.execute.new.self.conn c.execute.result set_text (set_params key value)
    (λ clean inside. rw (c.params-to_sql.ensures, c.params-to_sql-2.ensures, to_z_pos w64 value c.requires) at (c.execute.ensures.runs clean inside)) (CanSet key)
    (λ e other ready can. set_caused old key value can.contents can.top can.store.holds can.store.sound can.store.numbered ready.unlimited can.short (state g.S.Store c.execute.new.self.conn.now) e other ready.is_open)
    (λ can. stays_inside set_text (set_params key value) old schema can.store.holds.schema_is (Update 2 (alone set_query)) set_is tt)

use Rattle.sqlite_tables.specs.Steps.{HasConfig, HasNew, HasNone, HasRow, HasTables}
use Rattle.sqlite_tables.proofs.Inside.{opened_then, quiet_then}
use Rattle.sqlite_tables.proofs.Whole.{caused_then, founded, makes_then, refuses}
use Rattle.sqlite_tables.proofs.commit.make_all.Goals as goal

pub returns-clause-done : goal.returns-clause-done
returns-clause-done g c =
    let tx = c.args.tx.now.conn in
    makes_then g.S.Store tx c.make_state.new.tx.conn c.init_state.new.tx.conn c.init_state.ensures.quiet HasNone HasTables (HasNew c.args.number)
    (makes_then g.S.Store tx c.make_config.new.tx.conn c.make_state.new.tx.conn c.make_state.ensures.quiet HasNone HasConfig HasTables
    (makes_then g.S.Store tx c.make_row.new.tx.conn c.make_config.new.tx.conn c.make_config.ensures.quiet HasNone HasRow HasConfig c.in_ok-make_row.ensures.done c.in_ok-make_config.ensures.done)
    c.in_ok-make_state.ensures.done) c.in_ok-init_state.ensures.done

pub returns-clause-quiet : goal.returns-clause-quiet
returns-clause-quiet g c =
    quiet_then g.S.Store c.args.tx.now.conn c.make_state.new.tx.conn c.init_state.new.tx.conn (quiet_then g.S.Store c.args.tx.now.conn c.make_config.new.tx.conn c.make_state.new.tx.conn (quiet_then g.S.Store c.args.tx.now.conn c.make_row.new.tx.conn c.make_config.new.tx.conn c.make_row.ensures.quiet c.make_config.ensures.quiet) c.make_state.ensures.quiet) c.init_state.ensures.quiet

pub returns-in_err-make_config-clause-quiet : goal.returns-in_err-make_config-clause-quiet
returns-in_err-make_config-clause-quiet g c =
    quiet_then g.S.Store c.args.tx.now.conn c.make_row.new.tx.conn c.make_config.new.tx.conn c.make_row.ensures.quiet c.make_config.ensures.quiet

pub returns-in_err-make_state-clause-quiet : goal.returns-in_err-make_state-clause-quiet
returns-in_err-make_state-clause-quiet g c =
    quiet_then g.S.Store c.args.tx.now.conn c.make_config.new.tx.conn c.make_state.new.tx.conn (quiet_then g.S.Store c.args.tx.now.conn c.make_row.new.tx.conn c.make_config.new.tx.conn c.make_row.ensures.quiet c.make_config.ensures.quiet) c.make_state.ensures.quiet

pub returns-in_err-init_state-clause-quiet : goal.returns-in_err-init_state-clause-quiet
returns-in_err-init_state-clause-quiet g c =
    quiet_then g.S.Store c.args.tx.now.conn c.make_state.new.tx.conn c.init_state.new.tx.conn (quiet_then g.S.Store c.args.tx.now.conn c.make_config.new.tx.conn c.make_state.new.tx.conn (quiet_then g.S.Store c.args.tx.now.conn c.make_row.new.tx.conn c.make_config.new.tx.conn c.make_row.ensures.quiet c.make_config.ensures.quiet) c.make_state.ensures.quiet) c.init_state.ensures.quiet

pub returns-in_err-make_row-clause-caused : goal.returns-in_err-make_row-clause-caused
returns-in_err-make_row-clause-caused g c =
    refuses g.S.Store c.args.tx.now.conn c.make_row.new.tx.conn c.from_residual.result c.in_err-make_row.field-0.0 HasNone c.from_residual.ensures.1 c.in_err-make_row.ensures.caused

pub returns-in_err-make_config-clause-caused : goal.returns-in_err-make_config-clause-caused
returns-in_err-make_config-clause-caused g c =
    let e = c.in_err-make_config.field-0.0 in
    refuses g.S.Store c.args.tx.now.conn c.make_config.new.tx.conn c.from_residual-in_err-make_config.result e HasNone c.from_residual-in_err-make_config.ensures.1
    (caused_then g.S.Store c.args.tx.now.conn c.make_row.new.tx.conn c.make_config.new.tx.conn e HasNone HasRow c.make_row.ensures.quiet c.make_config.ensures.quiet
    (founded g.S.Store c.args.tx.now.conn c.make_row.new.tx.conn HasNone HasRow c.in_ok-make_row.ensures.done) c.in_err-make_config.ensures.caused)

pub returns-in_err-make_state-clause-caused : goal.returns-in_err-make_state-clause-caused
returns-in_err-make_state-clause-caused g c =
    let e = c.in_err-make_state.field-0.0 in
    let tx = c.args.tx.now.conn in
    let mid = c.make_config.new.tx.conn in
    let done = makes_then g.S.Store tx c.make_row.new.tx.conn mid c.make_config.ensures.quiet HasNone HasRow HasConfig c.in_ok-make_row.ensures.done c.in_ok-make_config.ensures.done in
    let quiet = quiet_then g.S.Store tx c.make_row.new.tx.conn mid c.make_row.ensures.quiet c.make_config.ensures.quiet in
    refuses g.S.Store tx c.make_state.new.tx.conn c.from_residual-in_err-make_state.result e HasNone c.from_residual-in_err-make_state.ensures.1
    (caused_then g.S.Store tx mid c.make_state.new.tx.conn e HasNone HasConfig quiet c.make_state.ensures.quiet (founded g.S.Store tx mid HasNone HasConfig done) c.in_err-make_state.ensures.caused)

pub returns-in_err-init_state-clause-caused : goal.returns-in_err-init_state-clause-caused
returns-in_err-init_state-clause-caused g c =
    let e = c.in_err-init_state.field-0.0 in
    let tx = c.args.tx.now.conn in
    let two = c.make_config.new.tx.conn in
    let mid = c.make_state.new.tx.conn in
    let done = makes_then g.S.Store tx two mid c.make_state.ensures.quiet HasNone HasConfig HasTables
    (makes_then g.S.Store tx c.make_row.new.tx.conn two c.make_config.ensures.quiet HasNone HasRow HasConfig c.in_ok-make_row.ensures.done c.in_ok-make_config.ensures.done) c.in_ok-make_state.ensures.done in
    let quiet = quiet_then g.S.Store tx two mid (quiet_then g.S.Store tx c.make_row.new.tx.conn two c.make_row.ensures.quiet c.make_config.ensures.quiet) c.make_state.ensures.quiet in
    refuses g.S.Store tx c.init_state.new.tx.conn c.from_residual-in_err-init_state.result e HasNone c.from_residual-in_err-init_state.ensures.1
    (caused_then g.S.Store tx mid c.init_state.new.tx.conn e HasNone HasTables quiet c.init_state.ensures.quiet (founded g.S.Store tx mid HasNone HasTables done) c.in_err-init_state.ensures.caused)

pub returns-clause-was_open : goal.returns-clause-was_open
returns-clause-was_open g c =
    let tx = c.args.tx.now.conn in
    let two = c.make_config.new.tx.conn in
    let quiet = quiet_then g.S.Store tx two c.make_state.new.tx.conn (quiet_then g.S.Store tx c.make_row.new.tx.conn two c.make_row.ensures.quiet c.make_config.ensures.quiet) c.make_state.ensures.quiet in
    opened_then g.S.Store tx c.make_state.new.tx.conn c.init_state.new.tx.conn quiet c.init_state.ensures.quiet c.in_ok-init_state.ensures.was_open

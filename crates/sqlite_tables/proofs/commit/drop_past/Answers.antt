use Rattle.std.proofs.Common.{arith}
use Rattle.sqlite.specs.Held.{state}
use Rattle.sqlite_tables.specs.Caused.{CanDrop}
use Rattle.sqlite_tables.specs.Steps.{without_below, without_past}
use Rattle.sqlite_tables.proofs.Inside.{quiet_then}
use Rattle.sqlite_tables.proofs.Taking.{can_drop}
use Rattle.sqlite_tables.proofs.Whole.{caused_then, changes_then, refuses}
use Rattle.sqlite_tables.proofs.commit.drop_past.Goals as goal

pub returns-clause-done : goal.returns-clause-done
returns-clause-done g c =
    changes_then g.S.Store c.args.tx.now.conn c.delete_spans.new.tx.conn c.delete_configs.new.tx.conn c.delete_configs.ensures.quiet (without_past c.args.floor) (without_below c.args.first) 0 0 0 (omega arith) (omega arith)
    c.in_ok-delete_spans.ensures.done c.in_ok-delete_configs.ensures.done

pub returns-clause-quiet : goal.returns-clause-quiet
returns-clause-quiet g c = quiet_then g.S.Store c.args.tx.now.conn c.delete_spans.new.tx.conn c.delete_configs.new.tx.conn c.delete_spans.ensures.quiet c.delete_configs.ensures.quiet

pub returns-in_err-delete_configs-clause-quiet : goal.returns-in_err-delete_configs-clause-quiet
returns-in_err-delete_configs-clause-quiet g c = quiet_then g.S.Store c.args.tx.now.conn c.delete_spans.new.tx.conn c.delete_configs.new.tx.conn c.delete_spans.ensures.quiet c.delete_configs.ensures.quiet

pub returns-in_err-delete_configs-clause-caused : goal.returns-in_err-delete_configs-clause-caused
returns-in_err-delete_configs-clause-caused g c =
    let tx = c.args.tx.now.conn in
    let mid = c.delete_spans.new.tx.conn in
    let last = c.delete_configs.new.tx.conn in
    let e = c.in_err-delete_configs.field-0.0 in
    refuses g.S.Store tx last c.from_residual-in_err-delete_configs.result e CanDrop c.from_residual-in_err-delete_configs.ensures.1
    (caused_then g.S.Store tx mid last e CanDrop CanDrop c.delete_spans.ensures.quiet c.delete_configs.ensures.quiet
    (λ clean.
    let did = c.in_ok-delete_spans.ensures.done clean in
    (did.goes_on, λ can. can_drop (without_past c.args.floor) (state g.S.Store tx.now).now (state g.S.Store mid.now).now can did.does))
    c.in_err-delete_configs.ensures.caused)

use Rattle.std.proofs.Common.{sym, subst}
use Rattle.rows.specs.Loads.{retained_of}
use Rattle.store.specs.StoreParts.{connection}
use Rattle.runs.specs.Over.{Begins, LeavesRefused, IsDeserved}
use Rattle.runs.proofs.Connected.{opened_over}
use Rattle.tables.specs.Device.{Lasts}
use Rattle.tables.proofs.Lasting.{lasts_trans}
use Rattle.store.specs.History.{device_below}
use Rattle.runs.proofs.Starting.{begins, failed_lasts, failed_leaves, back_leaves, started_lasts, unopened_deserved}
use Rattle.runs.proofs.over.open_over.Goals as goal

pub returns-in-Ok-open-clause-ok : goal.returns-in-Ok-open-clause-ok
returns-in-Ok-open-clause-ok g c = opened_over g.S.Store c.in-Ok.tables c.in-Ok-open.answering (Begins g.S.Store c.args.conn c.args.store)
    (λ loaded kept same. begins g.S.Store c.args.conn c.args.store (connection c.in-Ok.tables) c.in-Ok.ensures.ok (retained_of loaded) kept same)
    c.in-Ok-open.ensures.ok

pub returns-in-Err-open-clause-left : goal.returns-in-Err-open-clause-left
returns-in-Err-open-clause-left g c = subst (λ d. LeavesRefused g.S.Store c.args.conn c.args.store d) (sym c.into_connection.ensures.same)
    (back_leaves g.S.Store c.args.conn g.met.S.Store.settled c.args.store c.in-Ok.tables c.in-Err-open.tables c.in-Ok.ensures.ok c.in-Err-open.ensures.kept)

pub returns-in-Err-open-clause-caused : goal.returns-in-Err-open-clause-caused
returns-in-Err-open-clause-caused g c = λ is whole. subst (λ d. IsDeserved g.S.Store c.args.conn c.args.store d) (sym c.into_connection.ensures.same)
    (unopened_deserved g.S.Store c.args.conn c.args.store c.in-Ok.tables c.in-Err-open.tables c.in-Err-open.why c.in-Ok.ensures.ok c.in-Err-open.ensures.kept c.in-Err-open.ensures.caused is whole)

pub returns-in-Err-clause-left : goal.returns-in-Err-clause-left
returns-in-Err-clause-left g c = failed_leaves g.S.Store c.args.conn c.args.store c.in-Err.why c.in-Err.conn c.in-Err.ensures.err

pub returns-in-Ok-open-clause-lasts : goal.returns-in-Ok-open-clause-lasts
returns-in-Ok-open-clause-lasts g c =
    lasts_trans (device_below g.S.Store c.args.conn) (device_below g.S.Store (connection c.in-Ok.tables)) (device_below g.S.Store (connection c.in-Ok-open.answering.tables))
    (started_lasts g.S.Store c.args.conn c.args.store (connection c.in-Ok.tables) c.in-Ok.ensures.ok) c.in-Ok-open.ensures.ok.back.lasts

pub returns-in-Err-open-clause-back : goal.returns-in-Err-open-clause-back
returns-in-Err-open-clause-back g c = subst (λ d. Lasts (device_below g.S.Store c.args.conn) (device_below g.S.Store d)) (sym c.into_connection.ensures.same)
    (lasts_trans (device_below g.S.Store c.args.conn) (device_below g.S.Store (connection c.in-Ok.tables)) (device_below g.S.Store (connection c.in-Err-open.tables))
    (started_lasts g.S.Store c.args.conn c.args.store (connection c.in-Ok.tables) c.in-Ok.ensures.ok) c.in-Err-open.ensures.kept.lasts)

pub returns-in-Err-clause-back : goal.returns-in-Err-clause-back
returns-in-Err-clause-back g c = failed_lasts g.S.Store c.args.conn c.args.store c.in-Err.why c.in-Err.conn c.in-Err.ensures.err

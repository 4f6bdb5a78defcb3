use Rattle.std.proofs.Common.{Err, refl, sym, ap, subst, ◌∙◌}
use Rattle.rows.specs.Loads.{retained_of}
use Rattle.tables.specs.Device.{Lasts}
use Rattle.tables.proofs.Lasting.{lasts_trans}
use Rattle.store.specs.History.{device_below}
use Rattle.store.specs.StoreParts.{connection}
use Rattle.runs.specs.Runs.{ServedBy, PausedBy, CutBy}
use Rattle.runs.specs.Over.{over, Begins, LeavesRefused, IsDeserved}
use Rattle.runs.proofs.Results.{on_err, on_err_both, on_ok_both}
use Rattle.runs.proofs.Connected.{ended_over}
use Rattle.runs.proofs.Carried.{is_unread, is_unwritten, is_no_read_fault, is_no_write_fault}
use Rattle.runs.proofs.Starting.{begins, started_lasts, failed_lasts, failed_leaves, back_leaves, failed_deserved, load_deserved, was_fault}
use Rattle.runs.proofs.over.run_over.Goals as goal

pub returns-in-Ok-clause-ok : goal.returns-in-Ok-clause-ok
returns-in-Ok-clause-ok g c = on_ok_both c.run-ended.result.0 (λ flushed h. (
  flushed,
  (
    h.0,
    h.1,
    ended_over g.S.Store c.in-Ok.tables c.run-ended.result.1 (Begins g.S.Store c.args.conn c.args.store) c.into_connection.result h.0
        (ServedBy (over g.S.Store) (c.args.reader.now, c.args.writer.now) h.0 (c.run-ended.new.reader, c.run-ended.new.writer)) c.into_connection.ensures.same
        (λ loaded kept same. begins g.S.Store c.args.conn c.args.store (connection c.in-Ok.tables) c.in-Ok.ensures.ok (retained_of loaded) kept same) h.2,
  ),
)) c.run-ended.ensures.handed_on c.run-ended.ensures.ok

pub returns-in-Ok-clause-cannot_read : goal.returns-in-Ok-clause-cannot_read
returns-in-Ok-clause-cannot_read g c = on_err c.run-ended.result.0 (λ e h is. let k = h is in (
  k.0,
  k.1,
  ended_over g.S.Store c.in-Ok.tables c.run-ended.result.1 (Begins g.S.Store c.args.conn c.args.store) c.into_connection.result k.0
      (PausedBy (over g.S.Store) (c.args.reader.now, c.args.writer.now) k.0 (c.run-ended.new.reader, c.run-ended.new.writer)) c.into_connection.ensures.same
      (λ loaded kept same. begins g.S.Store c.args.conn c.args.store (connection c.in-Ok.tables) c.in-Ok.ensures.ok (retained_of loaded) kept same) k.2,
)) c.run-ended.ensures.cannot_read

pub returns-in-Ok-clause-cannot_write : goal.returns-in-Ok-clause-cannot_write
returns-in-Ok-clause-cannot_write g c = on_err c.run-ended.result.0 (λ e h is. let k = h is in (
  k.0,
  k.1,
  ended_over g.S.Store c.in-Ok.tables c.run-ended.result.1 (Begins g.S.Store c.args.conn c.args.store) c.into_connection.result k.0
      (CutBy (over g.S.Store) (c.args.reader.now, c.args.writer.now) k.0 (c.run-ended.new.reader, c.run-ended.new.writer)) c.into_connection.ensures.same
      (λ loaded kept same. begins g.S.Store c.args.conn c.args.store (connection c.in-Ok.tables) c.in-Ok.ensures.ok (retained_of loaded) kept same) k.2,
)) c.run-ended.ensures.cannot_write

pub returns-in-Ok-clause-refused : goal.returns-in-Ok-clause-refused
returns-in-Ok-clause-refused g c = on_err c.run-ended.result.0 (λ e h why is. let k = h why is in (
  k.0,
  k.1,
  subst (λ d. LeavesRefused g.S.Store c.args.conn c.args.store d) (sym c.into_connection.ensures.same)
      (back_leaves g.S.Store c.args.conn g.met.S.Store.settled c.args.store c.in-Ok.tables c.run-ended.result.1 c.in-Ok.ensures.ok k.2),
)) c.run-ended.ensures.refused

pub returns-in-Ok-clause-taken : goal.returns-in-Ok-clause-taken
returns-in-Ok-clause-taken g c = λ cannot. absurd (c.in-Ok.ensures.taken cannot)

pub returns-in-Ok-clause-cause : goal.returns-in-Ok-clause-cause
returns-in-Ok-clause-cause g c = on_err_both c.run-ended.result.0 (λ e known h. (
  known,
  λ is whole. subst (λ d. IsDeserved g.S.Store c.args.conn c.args.store d) (sym c.into_connection.ensures.same)
      (load_deserved g.S.Store c.args.conn c.args.store c.in-Ok.tables c.run-ended.result.1 c.in-Ok.ensures.ok c.run-ended.ensures.lasts (h is) whole),
)) c.run-ended.ensures.cause c.run-ended.ensures.caused

pub returns-in-Ok-clause-lasts : goal.returns-in-Ok-clause-lasts
returns-in-Ok-clause-lasts g c = subst (λ d. Lasts (device_below g.S.Store c.args.conn) (device_below g.S.Store d)) (sym c.into_connection.ensures.same)
    (lasts_trans (device_below g.S.Store c.args.conn) (device_below g.S.Store (connection c.in-Ok.tables)) (device_below g.S.Store (connection c.run-ended.result.1))
    (started_lasts g.S.Store c.args.conn c.args.store (connection c.in-Ok.tables) c.in-Ok.ensures.ok) c.run-ended.ensures.lasts)

pub returns-in-Err-clause-cannot_read : goal.returns-in-Err-clause-cannot_read
returns-in-Err-clause-cannot_read g c = λ is. absurd (is_no_read_fault c.fault_of.result c.fault_of.ensures.refused.0 c.fault_of.ensures.refused.1 is)

pub returns-in-Err-clause-cannot_write : goal.returns-in-Err-clause-cannot_write
returns-in-Err-clause-cannot_write g c = λ is. absurd (is_no_write_fault c.fault_of.result c.fault_of.ensures.refused.0 c.fault_of.ensures.refused.1 is)

pub returns-in-Err-clause-failed : goal.returns-in-Err-clause-failed
returns-in-Err-clause-failed g c = (
  c.requires.unbroken.0 ∙ sym (is_unread (Unit {0}) c.fault_of.result c.fault_of.ensures.refused.0 c.fault_of.ensures.refused.1),
  c.requires.unbroken.1 ∙ sym (is_unwritten (Unit {0}) c.fault_of.result c.fault_of.ensures.refused.0 c.fault_of.ensures.refused.1),
)

pub returns-in-Err-clause-refused : goal.returns-in-Err-clause-refused
returns-in-Err-clause-refused g c = λ why is. (refl, refl, failed_leaves g.S.Store c.args.conn c.args.store c.in-Err.why c.in-Err.conn c.in-Err.ensures.err)

pub returns-in-Err-clause-taken : goal.returns-in-Err-clause-taken
returns-in-Err-clause-taken g c = λ cannot. let k = c.in-Err.ensures.taken cannot in (ap Err (c.fault_of.ensures.fault k.0), k.1, refl, refl)

pub returns-in-Err-clause-cause : goal.returns-in-Err-clause-cause
returns-in-Err-clause-cause g c = (c.fault_of.ensures.cause, λ is whole. failed_deserved g.S.Store c.args.conn c.args.store c.in-Err.why c.in-Err.conn c.in-Err.ensures.err (was_fault c.in-Err.why c.fault_of.result c.fault_of.ensures.memory is) whole)

pub returns-in-Err-clause-lasts : goal.returns-in-Err-clause-lasts
returns-in-Err-clause-lasts g c = failed_lasts g.S.Store c.args.conn c.args.store c.in-Err.why c.in-Err.conn c.in-Err.ensures.err

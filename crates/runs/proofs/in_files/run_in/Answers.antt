use Rattle.std.proofs.Common.{Err, refl, sym, ap, subst, ◌∙◌}
use Rattle.sqlite_wal.specs.Files.{image_at}
use Rattle.sqlite.specs.Files.{file_state, over_files}
use Rattle.runs.specs.Files.{IsFoundIn}
use Rattle.runs.specs.Runs.{ServedBy, PausedBy, CutBy}
use Rattle.runs.specs.Over.{over}
use Rattle.runs.proofs.Results.{on_ok, on_err}
use Rattle.runs.proofs.Carried.{ended_in, is_unread, is_unwritten, is_no_read_fault, is_no_write_fault}
use Rattle.runs.proofs.Imaged.{cannot_begin, deserved_in, deserved_unopened, is_whole, lasted, leaves_in, left_unopened, was_clean}
use Rattle.runs.proofs.in_files.run_in.Goals as goal

pub returns-in-Ok-clause-ok : goal.returns-in-Ok-clause-ok
returns-in-Ok-clause-ok g c = on_ok c.run_over-ended.result.0 (λ h. let k = h.1 in (
  h.0,
  (
    k.0,
    k.1,
    ended_in (image_at g.P.Start) c.in-Ok.conn c.in-Ok.ensures.sees c.in-Ok.ensures.found c.args.store k.0
        (ServedBy (over over_files) (c.args.reader.now, c.args.writer.now) k.0 (c.run_over-ended.new.reader, c.run_over-ended.new.writer)) c.run_over-ended.result.1 k.2,
  ),
)) c.run_over-ended.ensures.ok

pub returns-in-Ok-clause-cannot_read : goal.returns-in-Ok-clause-cannot_read
returns-in-Ok-clause-cannot_read g c = on_err c.run_over-ended.result.0 (λ e h is. let k = h is in (
  k.0,
  k.1,
  ended_in (image_at g.P.Start) c.in-Ok.conn c.in-Ok.ensures.sees c.in-Ok.ensures.found c.args.store k.0
      (PausedBy (over over_files) (c.args.reader.now, c.args.writer.now) k.0 (c.run_over-ended.new.reader, c.run_over-ended.new.writer)) c.run_over-ended.result.1 k.2,
)) c.run_over-ended.ensures.cannot_read

pub returns-in-Ok-clause-cannot_write : goal.returns-in-Ok-clause-cannot_write
returns-in-Ok-clause-cannot_write g c = on_err c.run_over-ended.result.0 (λ e h is. let k = h is in (
  k.0,
  k.1,
  ended_in (image_at g.P.Start) c.in-Ok.conn c.in-Ok.ensures.sees c.in-Ok.ensures.found c.args.store k.0
      (CutBy (over over_files) (c.args.reader.now, c.args.writer.now) k.0 (c.run_over-ended.new.reader, c.run_over-ended.new.writer)) c.run_over-ended.result.1 k.2,
)) c.run_over-ended.ensures.cannot_write

pub returns-in-Ok-clause-refused : goal.returns-in-Ok-clause-refused
returns-in-Ok-clause-refused g c = on_err c.run_over-ended.result.0 (λ e h why is. let k = h why is in (
  k.0,
  k.1,
  leaves_in (image_at g.P.Start) c.in-Ok.conn c.in-Ok.ensures.sees c.in-Ok.ensures.found c.run_over-ended.result.1 c.run_over-ended.ensures.lasts c.args.store k.2,
)) c.run_over-ended.ensures.refused

pub returns-in-Ok-clause-taken : goal.returns-in-Ok-clause-taken
returns-in-Ok-clause-taken g c = λ cannot clean.
    let before = was_clean (image_at g.P.Start) c.in-Ok.conn c.in-Ok.ensures.sees c.in-Ok.ensures.found c.run_over-ended.result.1 c.run_over-ended.ensures.lasts clean in
    let k = c.run_over-ended.ensures.taken (cannot_begin (image_at g.P.Start) c.in-Ok.conn c.in-Ok.ensures.sees c.in-Ok.ensures.found c.args.store before cannot) in
    (k.0, subst (λ d. IsFoundIn (image_at g.P.Start) (file_state d)) (sym k.1) (c.in-Ok.ensures.sees before))

pub returns-in-Ok-clause-cause : goal.returns-in-Ok-clause-cause
returns-in-Ok-clause-cause g c = on_err c.run_over-ended.result.0 (λ e h. (
  h.0,
  λ is.
      deserved_in (image_at g.P.Start) c.in-Ok.conn c.in-Ok.ensures.sees c.in-Ok.ensures.found c.run_over-ended.result.1 c.run_over-ended.ensures.lasts c.args.store
      (h.1 is (is_whole (image_at g.P.Start) c.in-Ok.conn c.in-Ok.ensures.sees c.in-Ok.ensures.found)),
)) c.run_over-ended.ensures.cause

pub returns-in-Ok-clause-lasts : goal.returns-in-Ok-clause-lasts
returns-in-Ok-clause-lasts g c = lasted (image_at g.P.Start) c.in-Ok.conn c.in-Ok.ensures.sees c.in-Ok.ensures.found c.run_over-ended.result.1 c.run_over-ended.ensures.lasts

pub returns-in-Err-clause-cannot_read : goal.returns-in-Err-clause-cannot_read
returns-in-Err-clause-cannot_read g c = λ is. absurd (is_no_read_fault c.in-Err.fault c.in-Err.ensures.refused.0 c.in-Err.ensures.refused.1 is)

pub returns-in-Err-clause-cannot_write : goal.returns-in-Err-clause-cannot_write
returns-in-Err-clause-cannot_write g c = λ is. absurd (is_no_write_fault c.in-Err.fault c.in-Err.ensures.refused.0 c.in-Err.ensures.refused.1 is)

pub returns-in-Err-clause-failed : goal.returns-in-Err-clause-failed
returns-in-Err-clause-failed g c = (
  c.requires.unbroken.0 ∙ sym (is_unread (Unit {0}) c.in-Err.fault c.in-Err.ensures.refused.0 c.in-Err.ensures.refused.1),
  c.requires.unbroken.1 ∙ sym (is_unwritten (Unit {0}) c.in-Err.fault c.in-Err.ensures.refused.0 c.in-Err.ensures.refused.1),
)

pub returns-in-Err-clause-refused : goal.returns-in-Err-clause-refused
returns-in-Err-clause-refused g c = λ why is. (refl, refl, left_unopened (image_at g.P.Start) c.args.store c.in-Err.left c.in-Err.ensures.left)

pub returns-in-Err-clause-unopened : goal.returns-in-Err-clause-unopened
returns-in-Err-clause-unopened g c = (c.in-Err.ensures.refused.0, ap Err c.in-Err.ensures.refused.1)

pub returns-in-Err-clause-cause : goal.returns-in-Err-clause-cause
returns-in-Err-clause-cause g c = (c.in-Err.ensures.cause, λ is. deserved_unopened (image_at g.P.Start) c.args.store c.in-Err.left (c.in-Err.ensures.caused is))

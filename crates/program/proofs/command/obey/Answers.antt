use Rattle.std.proofs.Common.{None, refl}
use Rattle.std.specs.Prelude.{Err}
use Rattle.sqlite_wal.specs.Files.{image_at}
use Rattle.program.proofs.Results.{ok_at}
use Rattle.program.proofs.Stopping.{done_run, run_stops, done_service, service_stops}
use Rattle.program.proofs.command.obey.Goals as goal

pub returns-in-Ok-clause-done : goal.returns-in-Ok-clause-done
returns-in-Ok-clause-done g c = λ zero.
    done_run (image_at g.P.Start) g.R.Read.remaining c.args.reader.now c.run_at-ended.new.reader c.args.writer.now c.run_at-ended.new.writer c.run_at-ended.result.1 c.in-Run.place c.args.task c.in-Run.is
    (ok_at _ c.run_at-ended.result.0 _ c.in-Ok.is c.run_at-ended.ensures.ok)

pub returns-in-Run-clause-stopped : goal.returns-in-Run-clause-stopped
returns-in-Run-clause-stopped g c =
    run_stops (image_at g.P.Start) g.R.Read.remaining c.args.reader.now c.run_at-ended.new.reader c.args.writer.now c.run_at-ended.new.writer c.run_at-ended.result.1 c.in-Run.place c.args.task c.run_at-ended.result.0 c.in-Err.fault c.in-Run.is c.in-Err.is
    c.run_at-ended.ensures.cause c.run_at-ended.ensures.read_failed c.run_at-ended.ensures.write_failed c.run_at-ended.ensures.cannot_read c.run_at-ended.ensures.cannot_write c.run_at-ended.ensures.refused

pub returns-in-Ok-serve_at-clause-done : goal.returns-in-Ok-serve_at-clause-done
returns-in-Ok-serve_at-clause-done g c = λ zero.
    done_service (image_at g.P.Start) g.R.Read.remaining c.args.reader.now c.args.reader.now c.args.writer.now c.serve_at.new.writer (Err None) c.in-Serve.place c.args.task c.in-Serve.port c.in-Serve.workers c.in-Serve.is refl c.in-Ok-serve_at.ensures.ok refl

pub returns-in-Serve-clause-stopped : goal.returns-in-Serve-clause-stopped
returns-in-Serve-clause-stopped g c =
    service_stops (image_at g.P.Start) g.R.Read.remaining c.args.reader.now c.args.reader.now c.args.writer.now c.serve_at.new.writer (Err None) c.in-Serve.place c.args.task c.in-Serve.port c.in-Serve.workers c.in-Err-serve_at.fault c.in-Serve.is refl c.in-Err-serve_at.ensures.failed refl

use Rattle.names.specs.declared.refusal.Refusal.TheVariants.{Memory}
use Rattle.sqlite_wal.specs.Files.{image_at}
use Rattle.command_line.specs.declared.fault.Fault.TheVariants.{CommandLine, Refused}
use Rattle.program.specs.Ends.{unbroken}
use Rattle.program.proofs.Ending.{ends_as, refused_for, given_if, is_unbroken, stopped_from, unbegun_for}
use Rattle.program.proofs.process.program.Goals as goal

pub returns-in-Err-clause-unread : goal.returns-in-Err-clause-unread
returns-in-Err-clause-unread g c = refused_for c.args.words _ c.in-Err.e c.in-Err.is (λ memory.
    unbegun_for g.W.Write.contents c.args.output c.unbegun.result.0 c.unbegun.result.1 c.unbegun.result.2 c.args.reader.now c.args.errors.now c.unbegun.new.errors c.told_of.result (Refused Memory) (c.told_of.ensures.memory memory)
    c.unbegun.ensures.status c.unbegun.ensures.no_files c.unbegun.ensures.unwritten c.unbegun.ensures.told)

pub returns-in-Err-clause-no_text : goal.returns-in-Err-clause-no_text
returns-in-Err-clause-no_text g c = refused_for c.args.words _ c.in-Err.e c.in-Err.is (λ other.
    unbegun_for g.W.Write.contents c.args.output c.unbegun.result.0 c.unbegun.result.1 c.unbegun.result.2 c.args.reader.now c.args.errors.now c.unbegun.new.errors c.told_of.result CommandLine (c.told_of.ensures.no_text other)
    c.unbegun.ensures.status c.unbegun.ensures.no_files c.unbegun.ensures.unwritten c.unbegun.ensures.told)

pub returns-clause-stopped : goal.returns-clause-stopped
returns-clause-stopped g c = λ one. given_if c.args.words _ c.in-Ok.words c.in-Ok.is (given_if c.args.output _ c.in-Ok-output.output c.in-Ok-output.is (given_if c.args.host _ c.in-Ok-host.host c.in-Ok-host.is (
  c.command-status.result.1,
  stopped_from (image_at g.P.Start) _ g.R.Read.remaining c.args.reader.now c.new-writer.result (unbroken (g.W.Write.contents c.in-Ok-output.output) c.in-Ok-output.output) (c.command-status.new.reader, c.command-status.new.writer) c.command-status.result.1
      (is_unbroken (g.W.Write.contents c.in-Ok-output.output) c.new-writer.result c.in-Ok-output.output c.new-writer.ensures.inner c.new-writer.ensures.failed c.new-writer.ensures.flushed c.new-writer.ensures.taken) _ _ (c.command-status.ensures.stopped one),
  ends_as c.command-status.result.1 c.closed.result c.command-status.result.0 1 one c.closed.ensures,
)))

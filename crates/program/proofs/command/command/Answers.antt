use Rattle.std.proofs.Common.{refl, sym, subst, ◌∙◌}
use Rattle.program.specs.Ran.{task_stopped, is_no_configuration, words_unread}
use Rattle.program.proofs.Results.{ok_value, err_at}
use Rattle.command_line.specs.declared.fault.Fault.{Fault}
use Rattle.program.specs.Telling.{Tells}
use Rattle.program.proofs.Stopping.{never_0, is_bad_line}
use Rattle.program.proofs.command.command.Goals as goal

pub returns-in-Ok-obeyed-clause-done : goal.returns-in-Ok-obeyed-clause-done
returns-in-Ok-obeyed-clause-done g c = λ zero. (c.in-Ok.task, c.in-Ok.ensures.serves, (ok_value _ c.obey-obeyed.result.0 c.in-Ok-obeyed.status c.in-Ok-obeyed.is c.obey-obeyed.ensures.done) zero)

pub returns-in-Ok-obeyed-clause-stopped : goal.returns-in-Ok-obeyed-clause-stopped
returns-in-Ok-obeyed-clause-stopped g c = λ one.
    let k = (ok_value _ c.obey-obeyed.result.0 c.in-Ok-obeyed.status c.in-Ok-obeyed.is c.obey-obeyed.ensures.told) one in
    is_no_configuration k.1 k.2 (ok_value _ c.obey-obeyed.result.0 c.in-Ok-obeyed.status c.in-Ok-obeyed.is c.obey-obeyed.ensures.whole) k.3 refl

pub returns-in-Err-obeyed-clause-done : goal.returns-in-Err-obeyed-clause-done
returns-in-Err-obeyed-clause-done g c = λ zero. absurd (never_0 c.in-Err-obeyed.fault (sym c.status.ensures ∙ zero))

pub returns-in-Err-obeyed-clause-stopped : goal.returns-in-Err-obeyed-clause-stopped
returns-in-Err-obeyed-clause-stopped g c = λ one.
    task_stopped c.in-Ok.task c.in-Err-obeyed.fault c.in-Ok.ensures.serves (sym c.status.ensures ∙ one)
    (err_at _ c.obey-obeyed.result.0 c.in-Err-obeyed.fault c.in-Err-obeyed.is c.obey-obeyed.ensures.stopped) c.tell.ensures

pub returns-in-Err-clause-stopped : goal.returns-in-Err-clause-stopped
returns-in-Err-clause-stopped g c = λ one. words_unread c.in-Err.fault c.in-Err.ensures.err (sym c.status-in-Err.ensures ∙ one) refl refl refl c.tell-in-Err.ensures

pub returns-in-Err-clause-refused : goal.returns-in-Err-clause-refused
returns-in-Err-clause-refused g c = λ two. (
  refl,
  refl,
  refl,
  subst (λ (f : Fault). Tells c.args.errors.now c.tell-in-Err.new.errors f) (is_bad_line c.in-Err.fault (sym c.status-in-Err.ensures ∙ two)) c.tell-in-Err.ensures,
)

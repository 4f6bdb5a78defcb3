use Rattle.names.specs.declared.refusal.Refusal.TheVariants.{StoreFault}
use Rattle.runs.proofs.Results.{on_ok, on_err}
use Rattle.runs.proofs.Ending.{Closed, device_lasts, ended_served, ended_paused, ended_cut, comes_back}
use Rattle.runs.proofs.running.run.Goals as goal

pub returns-in-Ok-clause-ok : goal.returns-in-Ok-clause-ok
returns-in-Ok-clause-ok g c =
    let began = c.in-Ok.ensures.ok in
    let closed : Closed g.T.Tables c.serve-ended.new.answering c.close.result = record { given = c.close.ensures.same; agrees = c.close.ensures.agrees } in
    on_ok c.serve-ended.result (λ h. (h.0, h.1, ended_served g.T.Tables g.met.T.Tables.weaker _ _ _ _ began closed (c.args.reader.now, c.args.writer.now) (c.serve-ended.new.reader, c.serve-ended.new.writer) h.0 h.2)) c.serve-ended.ensures.ok

pub returns-in-Ok-clause-cannot_read : goal.returns-in-Ok-clause-cannot_read
returns-in-Ok-clause-cannot_read g c =
    let began = c.in-Ok.ensures.ok in
    let closed : Closed g.T.Tables c.serve-ended.new.answering c.close.result = record { given = c.close.ensures.same; agrees = c.close.ensures.agrees } in
    on_err c.serve-ended.result (λ e h is. let k = h is in (k.0, k.1, ended_paused g.T.Tables g.met.T.Tables.weaker _ _ _ _ began closed (c.args.reader.now, c.args.writer.now) (c.serve-ended.new.reader, c.serve-ended.new.writer) k.0 k.2)) c.serve-ended.ensures.cannot_read

pub returns-in-Ok-clause-cannot_write : goal.returns-in-Ok-clause-cannot_write
returns-in-Ok-clause-cannot_write g c =
    let began = c.in-Ok.ensures.ok in
    let closed : Closed g.T.Tables c.serve-ended.new.answering c.close.result = record { given = c.close.ensures.same; agrees = c.close.ensures.agrees } in
    on_err c.serve-ended.result (λ e h is. let k = h is in (k.0, k.1, ended_cut g.T.Tables g.met.T.Tables.weaker _ _ _ _ began closed (c.args.reader.now, c.args.writer.now) (c.serve-ended.new.reader, c.serve-ended.new.writer) k.0 k.2)) c.serve-ended.ensures.cannot_write

pub returns-in-Ok-clause-refused : goal.returns-in-Ok-clause-refused
returns-in-Ok-clause-refused g c =
    on_err c.serve-ended.result (λ e h why is. let k = h why is in (k.1, k.2, comes_back g.T.Tables _ _ _ _ c.in-Ok.ensures.ok.back k.3 c.close.ensures.same)) c.serve-ended.ensures.memory

pub returns-in-Ok-clause-lasts : goal.returns-in-Ok-clause-lasts
returns-in-Ok-clause-lasts g c =
    let began = c.in-Ok.ensures.ok in
    let closed : Closed g.T.Tables c.serve-ended.new.answering c.close.result = record { given = c.close.ensures.same; agrees = c.close.ensures.agrees } in
    device_lasts g.T.Tables g.met.T.Tables.weaker _ _ _ _ began closed c.serve-ended.ensures.answered

pub returns-in-Ok-clause-caused : goal.returns-in-Ok-clause-caused
returns-in-Ok-clause-caused g c =
    on_err c.serve-ended.result (λ e h is whole. absurd (cc ((h StoreFault is).0))) c.serve-ended.ensures.memory

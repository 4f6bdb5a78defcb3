use Rattle.desk.proofs.Accepting.{not_ready, rebuild_accepted, not_posted}
use Rattle.desk.specs.declared.desk.Posted.{Posted}
use Rattle.desk.proofs.desk.Desk.rebuild.Goals as goal

pub returns-in_err-make_ready-clause-err : goal.returns-in_err-make_ready-clause-err
returns-in_err-make_ready-clause-err g c =
    let ready = c.in_err-make_ready.ensures in
    not_ready g.T.Tables c.args.self.now c.make_ready.new.self ready.more ready.same ready.settled _ _ c.from_residual.result c.in_err-make_ready.field-0.0 c.from_residual.ensures.1 ready.err

pub returns-clause-ok : goal.returns-clause-ok
returns-clause-ok g c =
    let ready = c.in_ok-make_ready.ensures in
    let done = c.rebase.ensures in
    rebuild_accepted g.T.Tables c.args.self.now c.make_ready.new.self ready.more ready.same ready.settled ready.ok c.rebase.new.self c.last_posted-rev.result c.last_posted-rev.ensures.newest c.last_posted-rev.ensures.fits
    (λ (p : Posted). p.value) (λ (p : Posted). p.receipt) c.rebase.result done.posted done.same.0 done.same.1 done.told done.tells

pub returns-clause-err : goal.returns-clause-err
returns-clause-err g c =
    let ready = c.in_ok-make_ready.ensures in
    not_posted g.T.Tables c.args.self.now c.make_ready.new.self ready.more ready.same ready.settled ready.ok c.rebase.new.self _ c.rebase.result (λ why judged. judged) c.rebase.ensures.err

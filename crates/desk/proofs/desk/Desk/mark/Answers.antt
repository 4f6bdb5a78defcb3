use Rattle.desk.proofs.Accepting.{unlike, not_ready, marking_refused, marking_still, marking_accepted, not_posted}
use Rattle.desk.specs.declared.desk.Posted.{Posted}
use Rattle.desk.proofs.desk.Desk.mark.Goals as goal

pub returns-in_err-make_ready-clause-err : goal.returns-in_err-make_ready-clause-err
returns-in_err-make_ready-clause-err g c =
    let ready = c.in_err-make_ready.ensures in
    not_ready g.T.Tables c.args.self.now c.make_ready.new.self ready.more ready.same ready.settled _ _ c.from_residual.result c.in_err-make_ready.field-0.0 c.from_residual.ensures.1 ready.err

pub returns-in_err-judge_marking-clause-err : goal.returns-in_err-judge_marking-clause-err
returns-in_err-judge_marking-clause-err g c =
    let ready = c.in_ok-make_ready.ensures in
    marking_refused g.T.Tables c.args.self.now c.make_ready.new.self ready.more ready.same ready.settled ready.ok c.from_residual-in_err-judge_marking.result c.args.marking c.in_err-judge_marking.field-0.0
    c.from_residual-in_err-judge_marking.ensures.1 c.in_err-judge_marking.ensures.err

pub returns-clause-ok : goal.returns-clause-ok
returns-clause-ok g c =
    let ready = c.in_ok-make_ready.ensures in
    let done = c.remark.ensures in
    marking_accepted g.T.Tables c.args.self.now c.make_ready.new.self ready.more ready.same ready.settled ready.ok c.remark.new.self c.args.marking c.in_ok-judge_marking.ensures.ok
    (λ (p : Posted). p.value) (λ (p : Posted). p.receipt) c.remark.result done.posted done.same.0 done.same.1 done.told done.tells

pub returns-clause-err : goal.returns-clause-err
returns-clause-err g c =
    let ready = c.in_ok-make_ready.ensures in
    let still = marking_still g.T.Tables c.args.self.now c.make_ready.new.self ready.more ready.same ready.settled ready.ok c.remark.new.self c.args.marking c.in_ok-judge_marking.ensures.ok in
    not_posted g.T.Tables c.args.self.now c.make_ready.new.self ready.more ready.same ready.settled ready.ok c.remark.new.self _ c.remark.result (unlike still) c.remark.ensures.err

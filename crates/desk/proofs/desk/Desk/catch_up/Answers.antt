use Rattle.desk.proofs.Accepting.{few_unopposed, not_ready, caught_up, not_posted}
use Rattle.desk.specs.declared.desk.Posted.{Posted}
use Rattle.desk.proofs.desk.Desk.catch_up.Goals as goal

pub returns-in_err-make_ready-clause-err : goal.returns-in_err-make_ready-clause-err
returns-in_err-make_ready-clause-err g c =
    let ready = c.in_err-make_ready.ensures in
    not_ready g.T.Tables c.args.self.now c.make_ready.new.self ready.more ready.same ready.settled _ _ c.from_residual.result c.in_err-make_ready.field-0.0 c.from_residual.ensures.1 ready.err

pub returns-clause-err : goal.returns-clause-err
returns-clause-err g c =
    let ready = c.in_ok-make_ready.ensures in
    not_posted g.T.Tables c.args.self.now c.make_ready.new.self ready.more ready.same ready.settled ready.ok c.take.new.self _ c.take.result (few_unopposed c.args.commits c.if-commits-gt-MAX_CATCH_UP.false) c.take.ensures.err

pub returns-clause-ok : goal.returns-clause-ok
returns-clause-ok g c =
    let ready = c.in_ok-make_ready.ensures in
    let done = c.take.ensures in
    caught_up g.T.Tables c.args.self.now c.make_ready.new.self ready.more ready.same ready.settled ready.ok c.take.new.self (λ (p : Posted). p.value) (λ (p : Posted). p.receipt)
    c.args.part c.args.commits c.take.result c.if-commits-gt-MAX_CATCH_UP.false done.posted done.same.0 done.same.1 done.moved done.tells

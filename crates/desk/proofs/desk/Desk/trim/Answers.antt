use Rattle.std.proofs.Common.{arith}
use Rattle.desk.proofs.Accepting.{not_ready, floor_refused, trim_accepted, trim_refused}
use Rattle.desk.specs.declared.desk.Posted.{Posted}
use Rattle.desk.proofs.desk.Desk.trim.Goals as goal

pub returns-in_err-make_ready-clause-err : goal.returns-in_err-make_ready-clause-err
returns-in_err-make_ready-clause-err g c =
    let ready = c.in_err-make_ready.ensures in
    not_ready g.T.Tables c.args.self.now c.make_ready.new.self ready.more ready.same ready.settled _ _ c.from_residual.result c.in_err-make_ready.field-0.0 c.from_residual.ensures.1 ready.err

pub returns-in_err-judge_floor-clause-err : goal.returns-in_err-judge_floor-clause-err
returns-in_err-judge_floor-clause-err g c =
    let ready = c.in_ok-make_ready.ensures in
    floor_refused g.T.Tables c.args.self.now c.make_ready.new.self ready.more ready.same ready.settled ready.ok c.from_residual-in_err-judge_floor.result c.args.floor c.in_err-judge_floor.field-0.0
    c.from_residual-in_err-judge_floor.ensures.1 c.in_err-judge_floor.ensures.err

pub returns-clause-ok : goal.returns-clause-ok
returns-clause-ok g c =
    let ready = c.in_ok-make_ready.ensures in
    let done = c.raise.ensures in
    trim_accepted g.T.Tables c.args.self.now c.make_ready.new.self ready.more ready.same ready.settled ready.ok c.raise.new.self c.args.floor c.in_ok-judge_floor.ensures.ok
    (λ (p : Posted). p.value) (λ (p : Posted). p.receipt) c.raise.result (omega (arith, c.if-floor.false, c.floor.ensures)) done.posts done.stored done.value done.tells

pub returns-clause-err : goal.returns-clause-err
returns-clause-err g c =
    let ready = c.in_ok-make_ready.ensures in
    trim_refused g.T.Tables c.args.self.now c.make_ready.new.self ready.more ready.same ready.settled ready.ok c.raise.new.self c.args.floor c.in_ok-judge_floor.ensures.ok c.raise.result c.raise.ensures.err

use Rattle.std.proofs.Common.{refl}
use Rattle.names.specs.declared.commit.Commit.TheVariants.{Config as ConfigCommit}
use Rattle.desk.specs.TableChanges.{Adds}
use Rattle.desk.proofs.Accepting.{unlike, not_ready, config_accepted, config_refused, config_still, refuses_on}
use Rattle.desk.proofs.desk.Desk.configure.Goals as goal

pub returns-in_err-make_ready-clause-err : goal.returns-in_err-make_ready-clause-err
returns-in_err-make_ready-clause-err g c =
    let ready = c.in_err-make_ready.ensures in
    not_ready g.T.Tables c.args.self.now c.make_ready.new.self ready.more ready.same ready.settled _ _ c.from_residual.result c.in_err-make_ready.field-0.0 c.from_residual.ensures.1 ready.err

pub returns-clause-ok : goal.returns-clause-ok
returns-clause-ok g c =
    let ready = c.in_ok-make_ready.ensures in
    config_accepted g.T.Tables c.args.self.now c.make_ready.new.self ready.more ready.same ready.settled ready.ok c.post.new.self c.args.config c.post.result c.in_ok-judge_config.ensures.ok c.post.ensures.posts c.post.ensures.tells c.post.ensures.stored

pub returns-clause-err : goal.returns-clause-err
returns-clause-err g c =
    let ready = c.in_ok-make_ready.ensures in
    refuses_on g.T.Tables c.args.self.now c.make_ready.new.self ready.more ready.same ready.settled ready.ok c.post.new.self _ (Adds (ConfigCommit c.args.config)) _ c.post.result refl
    (unlike (config_still g.T.Tables c.args.self.now c.make_ready.new.self ready.more ready.same ready.settled ready.ok c.args.config c.in_ok-judge_config.ensures.ok)) c.post.ensures.err

pub returns-in_err-judge_config-clause-err : goal.returns-in_err-judge_config-clause-err
returns-in_err-judge_config-clause-err g c =
    let ready = c.in_ok-make_ready.ensures in
    config_refused g.T.Tables c.args.self.now c.make_ready.new.self ready.more ready.same ready.settled ready.ok c.from_residual-in_err-judge_config.result c.args.config c.in_err-judge_config.field-0.0
    c.from_residual-in_err-judge_config.ensures.1 c.in_err-judge_config.ensures.err

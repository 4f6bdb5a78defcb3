use Rattle.std.proofs.Common.{refl}
use Rattle.names.specs.declared.commit.Commit.TheVariants.{Tuples}
use Rattle.desk.specs.TableChanges.{Adds}
use Rattle.desk.specs.Posts.{newest_posted}
use Rattle.desk.proofs.Accepting.{unlike, not_ready, write_accepted, write_refused, still_accepted, early_memory, refuses_on}
use Rattle.desk.proofs.desk.Desk.write.Goals as goal

pub returns-in_err-make_ready-clause-err : goal.returns-in_err-make_ready-clause-err
returns-in_err-make_ready-clause-err g c =
    let ready = c.in_err-make_ready.ensures in
    not_ready g.T.Tables c.args.self.now c.make_ready.new.self ready.more ready.same ready.settled _ _ c.from_residual.result c.in_err-make_ready.field-0.0 c.from_residual.ensures.1 ready.err

pub returns-in_err-judge_write-clause-err : goal.returns-in_err-judge_write-clause-err
returns-in_err-judge_write-clause-err g c =
    let ready = c.in_ok-make_ready.ensures in
    write_refused g.T.Tables c.args.self.now c.make_ready.new.self ready.more ready.same ready.settled ready.ok c.from_residual-in_err-judge_write.result c.args.write c.in_err-judge_write.field-0.0
    c.from_residual-in_err-judge_write.ensures.1 c.in_err-judge_write.ensures.err

pub post-requires-clause-next : goal.post-requires-clause-next
post-requires-clause-next g c =
    (c.refuses_what_no_write_gives.ensures (newest_posted c.make_ready.new.self) c.in_ok-events.events).1 (c.args.write.ops, c.in_ok-events.ensures.ok, c.in_ok-judge_write.ensures.accepted)

pub returns-clause-ok : goal.returns-clause-ok
returns-clause-ok g c =
    let ready = c.in_ok-make_ready.ensures in
    write_accepted g.T.Tables c.args.self.now c.make_ready.new.self ready.more ready.same ready.settled ready.ok c.post.new.self c.args.write c.in_ok-events.events c.post.result
    c.in_ok-judge_write.ensures.ok c.in_ok-events.ensures.ok c.post.ensures.posts c.post.ensures.tells c.post.ensures.stored

pub returns-clause-err : goal.returns-clause-err
returns-clause-err g c =
    let ready = c.in_ok-make_ready.ensures in
    let accepted = still_accepted g.T.Tables c.args.self.now c.make_ready.new.self ready.more ready.same ready.settled ready.ok c.args.write c.in_ok-judge_write.ensures.ok in
    refuses_on g.T.Tables c.args.self.now c.make_ready.new.self ready.more ready.same ready.settled ready.ok c.post.new.self _ (Adds (Tuples c.in_ok-events.events)) _ c.post.result
    (accepted, (c.in_ok-events.events, c.in_ok-events.ensures.ok, refl)) (unlike accepted) c.post.ensures.err

pub returns-in_err-events-clause-err : goal.returns-in_err-events-clause-err
returns-in_err-events-clause-err g c =
    let ready = c.in_ok-make_ready.ensures in
    let accepted = still_accepted g.T.Tables c.args.self.now c.make_ready.new.self ready.more ready.same ready.settled ready.ok c.args.write c.in_ok-judge_write.ensures.ok in
    early_memory g.T.Tables c.args.self.now c.make_ready.new.self ready.more ready.same ready.settled ready.ok _ _ c.from_residual-in_err-events.result c.in_err-events.field-0.0 c.from_residual-in_err-events.ensures.1 c.in_err-events.ensures.err (unlike accepted)

use Rattle.std.specs.Prelude.{◌++◌, length}
use Rattle.std.proofs.lemmas.Result.{err_from_is_err_and}
use Rattle.tracked_io.proofs.Appending.{some_before, some_after, wrote_after}
use Rattle.http_api.specs.Replies.{start_text, middle_text}
use Rattle.http_api.proofs.reply.put_reply.Goals as goal

pub returns-in_err-put_start-clause-wrote : goal.returns-in_err-put_start-clause-wrote
returns-in_err-put_start-clause-wrote g c =
    let p = err_from_is_err_and c.from_residual.result c.from_residual.ensures.1 in
    rw p.1 (some_before _ _ _ _ c.in_err-put_start.ensures.wrote)

pub returns-in_err-put_middle-clause-wrote : goal.returns-in_err-put_middle-clause-wrote
returns-in_err-put_middle-clause-wrote g c =
    let p = err_from_is_err_and c.from_residual-in_err-put_middle.result c.from_residual-in_err-put_middle.ensures.1 in
    rw p.1 (some_after _ _ _ _ _ c.in_ok-put_start.ensures.wrote (some_before _ _ _ _ c.in_err-put_middle.ensures.wrote))

pub returns-clause-wrote : goal.returns-clause-wrote
returns-clause-wrote g c =
    let first = start_text c.args.status in
    let middle = middle_text (length c.args.body.now) c.args.closed in
    wrote_after _ c.args.writer.now.taken c.put_start.new.writer.taken c.put.new.writer.taken first (middle ++ c.args.body.now) c.in_ok-put_start.ensures.wrote
    (wrote_after _ c.put_start.new.writer.taken c.put_middle.new.writer.taken c.put.new.writer.taken middle c.args.body.now c.in_ok-put_middle.ensures.wrote c.put.ensures.wrote)

use Rattle.http_api.proofs.Settling.{wrote_flushed}
use Rattle.http_api.specs.Replies.{reply_text}
use Rattle.http_api.proofs.settle.say_reply.Goals as goal

pub returns-clause-wrote : goal.returns-clause-wrote
returns-clause-wrote g c = wrote_flushed c.flush.result c.args.writer.now.taken _ _ (reply_text c.args.status c.args.body.now c.args.closed) c.in_ok-put_reply.ensures.wrote c.flush.ensures.taken

use Rattle.answer_cache.proofs.Looking.{told_right}
use Rattle.answer_cache.proofs.at.AtOracle.knows.Goals as goal

pub returns-clause-right : goal.returns-clause-right
returns-clause-right c S are =
    told_right c.args.self.now.kept.now c.args.self.now.revision c.args.node.now c.args.user.now S c.peek_at.result are c.peek_at.ensures.found

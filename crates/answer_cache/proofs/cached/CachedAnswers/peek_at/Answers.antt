use Rattle.std.proofs.Common.{◌∙◌}
use Rattle.answer_cache.specs.Questions.{question}
use Rattle.answer_cache.proofs.Looking.{answer_of, is_found, is_none}
use Rattle.answer_cache.proofs.cached.CachedAnswers.peek_at.Goals as goal

pub returns-clause-found : goal.returns-clause-found
returns-clause-found c =
    let q = question c.args.revision c.args.node.now c.args.user.now in
    is_found q c.args.self.now c.copied.result
    (answer_of c.of-question.result q c.self.inside.answers.entries c.args.self.now c.copied.result c.of-question.ensures c.self.view_is (c.copied.ensures ∙ c.peek.ensures))

pub returns-clause-none : goal.returns-clause-none
returns-clause-none c =
    let q = question c.args.revision c.args.node.now c.args.user.now in
    is_none q c.args.self.now c.copied.result
    (answer_of c.of-question.result q c.self.inside.answers.entries c.args.self.now c.copied.result c.of-question.ensures c.self.view_is (c.copied.ensures ∙ c.peek.ensures))

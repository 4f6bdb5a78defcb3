use Rattle.std.proofs.Common.{sym, ◌∙◌}
use Rattle.std.proofs.lemmas.Bool.{false≢true}
use Rattle.hot.proofs.Answering.{kept_exactly, none_under}
use Rattle.hot.proofs.hot.Hot.is_kept.Goals as goal

pub returns-in-Some : goal.returns-in-Some
returns-in-Some c = λ S is.
    let both = kept_exactly c.args.self.now S is c.in-Some.id c.args.node.now c.in-Some.ensures.found in
    (λ t. both.0 (sym c.is_kept.ensures ∙ t), λ u. c.is_kept.ensures ∙ both.1 u)

pub returns-in-None : goal.returns-in-None
returns-in-None c = λ S is. (λ t. absurd (false≢true t), λ u. absurd (none_under c.args.self.now S is c.args.node.now c.in-None.ensures.missing u))

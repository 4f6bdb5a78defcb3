use Rattle.std.proofs.Common.{◌≡◌, ◌∙◌, rules, subst, sym}
use Rattle.shown.specs.KeptAnswers.{AreRetainedAnswers}
use Rattle.shown.specs.Standing.{Standing, standing}
use Rattle.published.specs.Known.{Known}
use Rattle.published.proofs.Rules.{enters}
use Rattle.published.proofs.session.look.Goals as goal

pub enter_as-requires : goal.enter_as-requires
enter_as-requires g c = enters _ _

pub answer_knowing-answer-requires : goal.answer_knowing-answer-requires
answer_knowing-answer-requires g c =
    let stands : c.get-copy.result.now.shown ≡ standing c.get-copy.result.now.prefix.steps = search rules in
    subst (λ (s : Standing). AreRetainedAnswers s.kept c.in-Some.kept.now) (sym (c.shown.ensures ∙ stands))
    (subst (λ (k : Known). AreRetainedAnswers (standing k.steps).kept c.in-Some.kept.now) c.prefix.ensures c.in-Some.ensures.right)

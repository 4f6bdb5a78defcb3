use Rattle.answer_cache.specs.Kept.{AreAnswersAt}
use Rattle.hot.specs.Kept.{IsHot}
use Rattle.shown.proofs.Outcomes.{some_is}
use Rattle.shown.proofs.known.KnownOracle.knows.Goals as goal

pub returns-in-Some-has-clause-right : goal.returns-in-Some-has-clause-right
returns-in-Some-has-clause-right c S told =
    c.in-Some-has.ensures.has S (some_is c.args.self.now.hot c.in-Some.hot (λ hot. IsHot hot.now S) c.in-Some.is told.0)

pub returns-in-Some-answers-clause-same : goal.returns-in-Some-answers-clause-same
returns-in-Some-answers-clause-same c S told =
    let before = some_is c.args.self.now.answers c.in-Some-answers.at (λ at. AreAnswersAt at.kept.now at.revision S) c.in-Some-answers.is told.3 in
    (told.0, told.1, told.2, c.knows.ensures.same S before)

use Rattle.hot.specs.Kept.{IsHot}
use Rattle.comparisons.proofs.Moving.{some_is}
use Rattle.comparisons.proofs.known.KnownOracle.knows.Goals as goal

pub returns-in-Some-has-clause-right : goal.returns-in-Some-has-clause-right
returns-in-Some-has-clause-right c S told =
    c.in-Some-has.ensures.has S (some_is c.args.self.now.hot c.in-Some.hot (λ hot. IsHot hot.now S) c.in-Some.is told.0)

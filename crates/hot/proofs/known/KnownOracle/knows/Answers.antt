use Rattle.hot.proofs.Outcomes.{if_some}
use Rattle.hot.proofs.known.KnownOracle.knows.Goals as goal

pub returns-clause-right : goal.returns-clause-right
returns-clause-right c = λ S is. if_some _ _ c.has.result (λ answer h. h S is) c.has.ensures.has

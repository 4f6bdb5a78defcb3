use Rattle.std.proofs.Common.{◌∙◌}
use Rattle.published.proofs.session.Session.learn_steps.Goals as goal

pub invariant_of-self : goal.invariant_of-self
invariant_of-self g c =
    let seen = c.self.invariant.0 in
    ((seen.0, seen.1, seen.2 ∙ c.learn.ensures.kept.0), c.learn.ensures.judged)

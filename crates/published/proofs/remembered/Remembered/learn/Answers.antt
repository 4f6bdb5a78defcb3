use Rattle.published.proofs.Judging.{either_judged}
use Rattle.published.proofs.Remembering.{still_kept}
use Rattle.published.proofs.remembered.Remembered.learn.Goals as goal

pub invariant_of-self : goal.invariant_of-self
invariant_of-self c =
    let inside = c.self.inside in
    let judged = either_judged inside.known c.args.steps.now c.longer.result c.self.invariant.0 c.requires.judged c.longer.ensures.one in
    (judged, still_kept inside.known.steps c.longer.result.steps inside.kept c.self.invariant.0 judged c.longer.ensures.this.1 c.self.invariant.1)

pub returns-clause-judged : goal.returns-clause-judged
returns-clause-judged c = either_judged c.self.inside.known c.args.steps.now c.longer.result c.self.invariant.0 c.requires.judged c.longer.ensures.one

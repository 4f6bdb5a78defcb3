use Rattle.published.proofs.Remembering.{still_kept, begun}
use Rattle.published.proofs.remembered.Remembered.answers_for.Goals as goal

pub returns-then-begins-clause-right : goal.returns-then-begins-clause-right
returns-then-begins-clause-right c =
    let inside = c.self.inside in
    let later = begun _ c.begins.result c.if-begins.true c.begins.ensures in
    still_kept inside.known.steps c.args.steps.now.steps inside.kept c.self.invariant.0 c.requires.judged later.1 c.self.invariant.1

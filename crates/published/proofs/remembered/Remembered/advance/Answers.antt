use Rattle.std.proofs.Common.{sym, subst}
use Rattle.published.specs.Known.{Known, Begins}
use Rattle.published.proofs.Remembering.{still_kept}
use Rattle.published.proofs.remembered.Remembered.advance.Goals as goal

pub invariant_of-self : goal.invariant_of-self
invariant_of-self c =
    let inside = c.self.inside in
    let later : Begins inside.known c.args.steps = subst (λ (k : Known). Begins k c.args.steps) (sym c.self.view_is) c.requires.later in
    (c.requires.judged, still_kept inside.known.steps c.args.steps.steps inside.kept c.self.invariant.0 c.requires.judged later.1 c.self.invariant.1)

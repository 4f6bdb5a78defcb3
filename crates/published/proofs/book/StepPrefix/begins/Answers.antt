use Rattle.std.proofs.Common.{ap, subst, List}
use mathlib.Core.List.{IsPrefix}
use Rattle.shown.specs.declared.step.Step.{Step}
use Rattle.published.proofs.Beginnings.{begins_by}
use Rattle.published.proofs.book.StepPrefix.begins.Goals as goal

pub returns : goal.returns
returns c =
    let both = c.learn.new.self.log in
    let this : IsPrefix c.self.inside.seen.log both = subst (λ (l : List Step). IsPrefix l both) (ap (λ s. s.log) c.again-both.ensures) c.learn.ensures.2 in
    let one = rw (← c.self.view_is, ← c.other.view_is) at c.requires in
    rw (← c.self.view_is, ← c.other.view_is) (begins_by c.self.inside.seen.book c.other.inside.seen.book c.self.inside.seen.log c.other.inside.seen.log both c.self.inside.count c.other.inside.count one c.self.invariant.0 c.other.invariant.0 this c.learn.ensures.3)

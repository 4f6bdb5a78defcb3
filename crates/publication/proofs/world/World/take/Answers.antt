use Rattle.std.proofs.Common.{◌≡◌, true, sym, ap, ◌∙◌}
use Rattle.shown.specs.declared.step.Step.TheVariants.{Take}
use Rattle.publication.specs.World.{State, has_begun}
use Rattle.publication.proofs.Waiting.{fit_beside, take_beside}
use Rattle.publication.proofs.world.World.take.Goals as goal

pub invariant_of-self-2 : goal.invariant_of-self-2
invariant_of-self-2 c =
    let s = c.self.inside in
    let begun : has_begun s.posted.items ≡ true = ap (λ (t : State). has_begun t.posted) c.self.view_is ∙ sym c.has_begun.ensures ∙ c.if-not-has_begun.false in
    fit_beside s.posted.items _ s.waiting.items (Take c.args.part c.args.commits) s.newest s.shown s.published c.self.invariant c.in_ok-push.ensures.items begun (take_beside c.args.part c.args.commits) tt

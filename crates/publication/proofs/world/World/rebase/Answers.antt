use Rattle.std.proofs.Common.{◌≡◌, true, sym, ap, subst, ◌∙◌}
use Rattle.shown.specs.declared.step.Step.TheVariants.{Rebase}
use Rattle.shown.specs.Standing.{standing}
use Rattle.publication.specs.declared.event.Event.TheVariants.{Posted}
use Rattle.publication.specs.declared.event.Posting.TheVariants.{Rebasing}
use Rattle.publication.specs.declared.event.Outcome.TheVariants.{Done}
use Rattle.publication.specs.World.{State, has_begun, can_rebase, Happens}
use Rattle.publication.proofs.Happened.{rebase_next, none_told}
use Rattle.publication.proofs.Waiting.{fit_beside, rebase_beside}
use Rattle.publication.proofs.world.World.rebase.Goals as goal

pub invariant_of-self-2 : goal.invariant_of-self-2
invariant_of-self-2 c =
    let s = c.self.inside in
    let begun : has_begun s.posted.items ≡ true = ap (λ (t : State). has_begun t.posted) c.self.view_is ∙ sym c.has_begun.ensures ∙ c.if-not-has_begun.false in
    let can : can_rebase (standing s.posted.items) c.args.rev ≡ true = ap (λ (t : State). can_rebase (standing t.posted) c.args.rev) c.self.view_is ∙ sym c.in_ok-can_rebase.ensures ∙ c.if-not-branch.false in
    fit_beside s.posted.items _ s.waiting.items (Rebase c.args.rev) s.newest s.shown s.published c.self.invariant c.in_ok-push.ensures.items begun (rebase_beside c.args.rev) (none_told _ can)

pub returns-clause-ok : goal.returns-clause-ok
returns-clause-ok c =
    let s = c.self.inside in
    let begun : has_begun s.posted.items ≡ true = ap (λ (t : State). has_begun t.posted) c.self.view_is ∙ sym c.has_begun.ensures ∙ c.if-not-has_begun.false in
    let can : can_rebase (standing s.posted.items) c.args.rev ≡ true = ap (λ (t : State). can_rebase (standing t.posted) c.args.rev) c.self.view_is ∙ sym c.in_ok-can_rebase.ensures ∙ c.if-not-branch.false in
    subst (λ (t : State). Happens t (Posted (Rebasing c.args.rev)) Done (record { stored = s.newest; posted = c.push.new.self.items; shown = s.shown })) c.self.view_is
    (rebase_next s.posted.items c.push.new.self.items c.args.rev s.newest s.shown begun can c.in_ok-push.ensures.items)

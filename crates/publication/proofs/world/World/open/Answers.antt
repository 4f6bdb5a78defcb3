use Rattle.std.proofs.Common.{◌≡◌, false, [], ◌∷◌, ◌++◌, List, sym, ap, subst, ◌∙◌}
use Rattle.shown.specs.declared.step.Step.{Step}
use Rattle.shown.specs.declared.step.Step.TheVariants.{Open}
use Rattle.publication.specs.declared.event.Event.TheVariants.{Posted}
use Rattle.publication.specs.declared.event.Posting.TheVariants.{Opening}
use Rattle.publication.specs.declared.event.Outcome.TheVariants.{Done}
use Rattle.publication.specs.World.{State, has_begun, Happens}
use Rattle.publication.proofs.Happened.{open_first}
use Rattle.publication.proofs.Limits.{within_is}
use Rattle.publication.proofs.Waiting.{fit_opened, none_posted}
use Rattle.publication.proofs.world.World.open.Goals as goal

pub new-requires : goal.new-requires
new-requires c = within_is c.args.loaded (sym c.in_ok-is_within.ensures ∙ c.if-not-branch.false)

pub invariant_of-self-2 : goal.invariant_of-self-2
invariant_of-self-2 c =
    let s = c.self.inside in
    let unbegun : has_begun s.posted.items ≡ false = ap (λ (t : State). has_begun t.posted) c.self.view_is ∙ sym c.has_begun.ensures ∙ c.if-has_begun.false in
    fit_opened s.posted.items _ s.waiting.items c.args.loaded s.newest _ s.shown s.published c.self.invariant unbegun
    (c.push_reserved.ensures.items ∙ ap (λ (xs : List Step). xs ++ Open c.args.loaded ∷ []) c.reserve.ensures.items) (within_is c.args.loaded (sym c.in_ok-is_within.ensures ∙ c.if-not-branch.false)) c.in_ok-self-inside.ensures

pub returns-clause-ok : goal.returns-clause-ok
returns-clause-ok c =
    let s = c.self.inside in
    let unbegun : has_begun s.posted.items ≡ false = ap (λ (t : State). has_begun t.posted) c.self.view_is ∙ sym c.has_begun.ensures ∙ c.if-has_begun.false in
    subst (λ (t : State). Happens t (Posted (Opening c.args.loaded)) Done (record { stored = c.in_ok-self-inside.field-0; posted = c.push_reserved.new.self.items; shown = s.shown })) c.self.view_is
    (open_first s.posted.items c.push_reserved.new.self.items c.args.loaded s.newest c.in_ok-self-inside.field-0 s.shown unbegun (sym c.in_ok-is_within.ensures ∙ c.if-not-branch.false) (none_posted s.posted.items unbegun)
    (c.push_reserved.ensures.items ∙ ap (λ (xs : List Step). xs ++ Open c.args.loaded ∷ []) c.reserve.ensures.items) c.in_ok-self-inside.ensures)

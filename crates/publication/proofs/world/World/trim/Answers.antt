use Rattle.std.proofs.Common.{◌≡◌, true, sym, ap, subst, ◌∙◌}
use Rattle.publication.specs.declared.event.Event.TheVariants.{Posted}
use Rattle.publication.specs.declared.event.Posting.TheVariants.{Trimming}
use Rattle.publication.specs.declared.event.Outcome.TheVariants.{Done}
use Rattle.shown.specs.Standing.{Standing, standing, CanRaise}
use Rattle.publication.specs.World.{State, has_begun, Happens}
use Rattle.publication.proofs.Happened.{raise_next}
use Rattle.publication.proofs.Waiting.{raise_stored, fit_trimmed}
use Rattle.publication.proofs.world.World.trim.Goals as goal

pub trim-requires : goal.trim-requires
trim-requires c =
    let s = c.self.inside in
    let can : CanRaise (standing s.posted.items) c.args.floor =
    subst (λ (t : Standing). CanRaise t c.args.floor) (c.in_ok-standing.ensures ∙ sym (ap (λ (t : State). standing t.posted) c.self.view_is)) (c.can_raise.ensures.0 c.if-not-can_raise.false) in
    (raise_stored s.posted.items s.waiting.items s.newest s.shown s.published c.args.floor c.self.invariant can).1

pub invariant_of-self-2 : goal.invariant_of-self-2
invariant_of-self-2 c =
    let s = c.self.inside in
    let begun : has_begun s.posted.items ≡ true = ap (λ (t : State). has_begun t.posted) c.self.view_is ∙ sym c.has_begun.ensures ∙ c.if-not-has_begun.false in
    let can : CanRaise (standing s.posted.items) c.args.floor =
    subst (λ (t : Standing). CanRaise t c.args.floor) (c.in_ok-standing.ensures ∙ sym (ap (λ (t : State). standing t.posted) c.self.view_is)) (c.can_raise.ensures.0 c.if-not-can_raise.false) in
    let low = (raise_stored s.posted.items s.waiting.items s.newest s.shown s.published c.args.floor c.self.invariant can).0 in
    fit_trimmed s.posted.items c.push.new.self.items s.waiting.items c.args.floor s.newest c.trim.new.self s.shown s.published c.self.invariant c.in_ok-push.ensures.items begun can (c.trim.ensures.raised low)

pub returns-clause-ok : goal.returns-clause-ok
returns-clause-ok c =
    let s = c.self.inside in
    let begun : has_begun s.posted.items ≡ true = ap (λ (t : State). has_begun t.posted) c.self.view_is ∙ sym c.has_begun.ensures ∙ c.if-not-has_begun.false in
    let can : CanRaise (standing s.posted.items) c.args.floor =
    subst (λ (t : Standing). CanRaise t c.args.floor) (c.in_ok-standing.ensures ∙ sym (ap (λ (t : State). standing t.posted) c.self.view_is)) (c.can_raise.ensures.0 c.if-not-can_raise.false) in
    let low = (raise_stored s.posted.items s.waiting.items s.newest s.shown s.published c.args.floor c.self.invariant can).0 in
    subst (λ (t : State). Happens t (Posted (Trimming c.args.floor)) Done (record { stored = c.trim.new.self; posted = c.push.new.self.items; shown = s.shown })) c.self.view_is
    (raise_next s.posted.items c.push.new.self.items c.args.floor s.newest c.trim.new.self s.shown begun can c.in_ok-push.ensures.items (c.trim.ensures.raised low))

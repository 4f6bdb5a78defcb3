use Rattle.std.proofs.Common.{◌≡◌, true, [], ◌∷◌, ◌++◌, sym, ap, ap₂, ◌∙◌}
use Rattle.names.specs.declared.commit.Commit.{Commit}
use Rattle.meaning.specs.Config.{Configured}
use Rattle.rows.specs.Retained.{with_commit}
use Rattle.rows.specs.Follows.{IsNext}
use Rattle.publication.specs.World.{State, has_begun}
use Rattle.publication.proofs.Happened.{is_none}
use Rattle.publication.proofs.Waiting.{fit_stored}
use Rattle.publication.proofs.world.World.store.Goals as goal

pub invariant_of-self-2 : goal.invariant_of-self-2
invariant_of-self-2 c =
    let s = c.self.inside in
    let begun : has_begun s.posted.items ≡ true = ap (λ (t : State). has_begun t.posted) c.self.view_is ∙ sym c.has_begun.ensures ∙ c.if-not-has_begun.false in
    let next : IsNext s.newest c.args.commit = is_none _ (sym c.in_ok-refuses.ensures ∙ c.if-branch.false) in
    let kept : c.in_ok-kept.kept ≡ c.args.commit = c.in_ok-kept.ensures in
    fit_stored s.posted.items s.waiting.items _ c.args.commit s.newest _ s.shown s.published c.self.invariant
    (c.push_back_reserved.ensures.items ∙ ap₂ (λ h (x : Commit Configured). h ++ x ∷ []) c.reserve.ensures.items kept) begun next
    (c.in_ok-absorb.ensures.ok ∙ ap (λ (x : Commit Configured). with_commit s.newest x) kept)

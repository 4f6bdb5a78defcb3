use Rattle.std.proofs.Common.{[], ◌∷◌, ◌++◌, List, ap, subst, ◌∙◌}
use Rattle.std.specs.Prelude.{Option}
use Rattle.std.specs.Option.{option_to_list}
use Rattle.names.specs.declared.commit.Commit.{Commit as CommitOf}
use Rattle.meaning.specs.Config.{Configured}
use Rattle.shown.specs.declared.step.Step.{Step}
use Rattle.shown.specs.declared.step.Step.TheVariants.{Commit}
use Rattle.publication.specs.declared.event.Event.TheVariants.{Posted}
use Rattle.publication.specs.declared.event.Posting.TheVariants.{NextCommit}
use Rattle.publication.specs.declared.event.Outcome.TheVariants.{Done}
use Rattle.publication.specs.World.{State, Happens}
use Rattle.publication.proofs.Happened.{post_next}
use Rattle.publication.proofs.world.World.post.Goals as goal

pub returns-clause-ok : goal.returns-clause-ok
returns-clause-ok c =
    let s = c.self.inside in
    subst (λ (t : State). Happens t (Posted NextCommit) Done (record { stored = s.newest; posted = c.push_reserved.new.self.items; shown = s.shown })) c.self.view_is
    (post_next s.posted.items c.push_reserved.new.self.items s.waiting.items c.pop_front.new.self.items c.in-Some.commit s.newest s.shown s.published c.self.invariant
    (c.pop_front.ensures.items ∙ ap (λ (p : Option (CommitOf Configured)). option_to_list p ++ c.pop_front.new.self.items) c.in-Some.is)
    (c.push_reserved.ensures.items ∙ ap (λ (xs : List Step). xs ++ Commit c.in-Some.commit ∷ []) c.reserve.ensures.items))

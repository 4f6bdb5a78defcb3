use Rattle.std.proofs.Common.{◌≡◌, ap, refl, subst, sym, ◌∙◌}
use Rattle.names.specs.Calls.{told}
use Rattle.desk.specs.Posts.{Posts}
use Rattle.calls.specs.steps.Change.{changes_nothing}
use Rattle.one_history.specs.History.{Hand}
use Rattle.keeper.specs.declared.deeds.Deed.{Deed}
use Rattle.keeper.specs.declared.deeds.Deed.TheVariants.{Answered}
use Rattle.keeper.specs.Deeds.{IsDoneTo}
use Rattle.keeper.specs.Kept.{IsKept, KnowsMore}
use Rattle.keeper.specs.Fronts.{FrontState, off_the_desk, on_the_desk}
use Rattle.keeper.proofs.Kept.{knows_more_trans}
use Rattle.keeper.proofs.front.Front.answer_change.Goals as goal

pub returns-in-Ok : goal.returns-in-Ok
returns-in-Ok g c =
    let old = c.args.self.now in
    let made = c.make_ready-made.ensures in
    let before = c.deref_mut.result.now in
    let after = c.answer.new.self in
    let hand : c.self-in-Ok.inside.place ≡ old.hand = ap (λ (s : FrontState). s.hand) c.self-in-Ok.view_is ∙ made.deeds in
    on_the_desk before after
    (subst (λ (d : Posts g.row.T.Denot). IsKept g.T.Tables g.J.Naming.book d) (sym c.deref_mut.ensures.value) c.hold_with.ensures.kept)
    c.answer.ensures.sound
    (subst (λ (h : Hand Deed). IsDoneTo g.T.Tables g.J.KeeperName.starts h before (Answered c.args.call c.args.body.now (told c.answer.result)) after c.answer.new.place) hand c.answer.ensures.noted)
    (knows_more_trans old.known c.self-in-Ok.inside.session c.answer.new.session (subst (λ (s : FrontState). KnowsMore old.known s.known) (sym c.self-in-Ok.view_is) made.known) c.answer.ensures.kept)
    c.answer.ensures.known

pub returns-in-Err : goal.returns-in-Err
returns-in-Err g c = off_the_desk (λ desk. changes_nothing c.in-Err.why c.in-Err.ensures.err c.refusal.ensures refl) refl

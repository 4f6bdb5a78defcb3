use Rattle.std.proofs.Common.{◌≡◌, ◌++◌, ◌∷◌, [], ap, refl, sym, ◌∙◌, subst}
use Rattle.std.specs.Prelude.{IfErr}
use mathlib.Core.List.{IsPrefix}
use Rattle.rows.specs.Follows.{IsNext}
use Rattle.shown.specs.declared.step.Step.TheVariants.{Commit as CommitStep}
use Rattle.shown.specs.Standing.{Standing, after_step, standing}
use Rattle.desk.specs.TableChanges.{Adds, CanChange}
use Rattle.desk.specs.Posts.{ShowsMore, Posts}
use Rattle.desk.specs.Changes.{IsRefused}
use Rattle.desk.specs.inside.Latching.{AgreeWith}
use Rattle.desk.specs.inside.Changing.{plain}
use Rattle.desk.specs.inside.Posting.{NoCause}
use Rattle.desk.proofs.Sound.{sound_same, sound_next}
use Rattle.desk.proofs.Unposted.{no_room, not_stored}
use Rattle.desk.proofs.desk.Desk.post.Goals as goal

pub returns-in_err-kept-clause-err : goal.returns-in_err-kept-clause-err
returns-in_err-kept-clause-err g c =
    let inside = c.self.inside in
    let told = c.from_residual in
    subst (λ (d : Posts g.row.T.Denot). IfErr told.result (λ why. IsRefused g.T.Tables c.args.self.now (λ made. made ≡ Adds c.args.commit) NoCause why d)) c.self.view_is
    (no_room g.T.Tables c.args.self.now inside.tables inside.own inside.publication inside.publication c.self.view_is c.requires.open c.self.invariant.stands c.self.invariant.beginning c.self.invariant.judged g.met.T.Tables.settled c.self.invariant.agrees
    refl refl refl told.result (λ made. made ≡ Adds c.args.commit) told.ensures.1)

pub returns-in_err-reserve-clause-err : goal.returns-in_err-reserve-clause-err
returns-in_err-reserve-clause-err g c =
    let inside = c.self.inside in
    let room = c.reserve.ensures.same in
    no_room g.T.Tables c.args.self.now inside.tables inside.own inside.publication c.reserve.new.self c.self.view_is c.requires.open c.self.invariant.stands c.self.invariant.beginning c.self.invariant.judged g.met.T.Tables.settled c.self.invariant.agrees
    room.0 room.1 room.2 c.from_residual-in_err-reserve.result _ c.from_residual-in_err-reserve.ensures.1

pub returns-in_err-step-clause-err : goal.returns-in_err-step-clause-err
returns-in_err-step-clause-err g c =
    let inside = c.self.inside in
    let stands : inside.own ≡ standing c.args.self.now.posted = c.self.invariant.stands ∙ ap standing (ap (λ d. d.posted) c.self.view_is) in
    let next : IsNext inside.own.kept c.in_ok-kept.kept = subst (IsNext inside.own.kept) (sym c.in_ok-kept.ensures) (subst (λ (s : Standing). IsNext s.kept c.args.commit) (sym stands) c.requires.next) in
    let room = c.reserve.ensures.same in
    let change = c.commit_change-change in
    not_stored g.T.Tables c.args.self.now inside.tables inside.own inside.publication c.reserve.new.self c.self.view_is c.requires.open c.self.invariant.stands c.self.invariant.beginning c.self.invariant.judged g.met.T.Tables.settled c.self.invariant.agrees
    room.0 room.1 room.2 c.from_residual-in_err-step.result c.in_err-step.field-0.0 c.store.new.tables (Adds c.args.commit) (plain change.result) c.from_residual-in_err-step.ensures.1
    (change.ensures.plain ∙ ap Adds c.in_ok-kept.ensures) (subst (CanChange inside.own.kept) (sym change.ensures.plain) next) c.in_err-step.ensures.err c.store.ensures.lasts
    (subst (λ (s : Standing). AgreeWith g.T.Tables c.store.new.tables s.kept) c.in_err-step.ensures.undone c.store.ensures.agrees)

pub invariant_of-self-2 : goal.invariant_of-self-2
invariant_of-self-2 g c =
    let inside = c.self.inside in
    let room = c.reserve.ensures.same in
    let stored = c.in_ok-step.ensures in
    sound_next g.T.Tables inside.tables.failed inside.tables.tables inside.own c.reserve.new.self c.post.new.self
    (sound_same g.T.Tables inside.tables.failed inside.tables.tables inside.own inside.publication c.reserve.new.self c.self.invariant room.1 room.2)
    c.in_ok-step.step c.post.ensures.posted c.post.ensures.same.1 c.post.ensures.judged c.store.new.tables.failed c.store.new.tables.tables c.store.new.own
    (stored.done ∙ ap (after_step inside.own) (sym stored.step)) c.store.ensures.agrees

pub returns-clause-posts : goal.returns-clause-posts
returns-clause-posts g c =
    let step : c.in_ok-step.step ≡ CommitStep c.args.commit = c.in_ok-step.ensures.step ∙ c.commit_change-change.ensures.step ∙ ap CommitStep c.in_ok-kept.ensures in
    let room = c.reserve.ensures.same in
    let more = c.publish-shown.ensures.more in
    let shows : ShowsMore (record c.args.self.now { posted = c.args.self.now.posted ++ CommitStep c.args.commit ∷ [] }) c.publish-shown.new.self = record {
      posted = more.posted ∙ c.post.ensures.posted ∙ ap (λ l. l ++ c.in_ok-step.step ∷ []) (room.1 ∙ ap (λ d. d.posted) c.self.view_is) ∙ ap (λ s. c.args.self.now.posted ++ s ∷ []) step;
      book = more.book ∙ c.post.ensures.same.0 ∙ room.0 ∙ ap (λ d. d.book) c.self.view_is;
      later = subst (λ l. IsPrefix l c.publish-shown.new.self.shown) (c.post.ensures.same.1 ∙ room.2 ∙ ap (λ d. d.shown) c.self.view_is) more.later;
      beginning = more.beginning;
      judged = more.judged;
    } in
    record { shows = shows; faults = c.publish-shown.ensures.same.2 ∙ c.in_ok-step.ensures.quiet ∙ ap (λ d. d.faults) c.self.view_is }

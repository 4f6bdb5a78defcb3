use Rattle.std.proofs.Common.{sym, subst}
use Rattle.decide.specs.Answers.{IsAnswer}
use Rattle.rows.specs.Retained.{IsRetained, snap_at}
use Rattle.shown.specs.Standing.{standing}
use Rattle.published.specs.Known.{Known}
use Rattle.published.proofs.Remembering.{kept_with, can_be_kept}
use Rattle.published.proofs.remembered.Remembered.keep.Goals as goal

pub invariant_of-self : goal.invariant_of-self
invariant_of-self c =
    let inside = c.self.inside in
    let node = c.in-Check.node in
    let user = c.in-Check.user in
    let answer = c.in-Checked.answer in
    let Fits = λ (k : Known). IsRetained (standing k.steps).kept answer.rev × IsAnswer (snap_at (standing k.steps).kept answer.rev) user node answer.value in
    let right : Fits inside.known = subst Fits (sym c.self.view_is)
    (can_be_kept (standing c.args.self.now.steps) c.args.question.now c.args.asked.now _ _ node user answer c.in-Ok.is c.in-Check.is c.in-Checked.is c.requires) in
    (c.self.invariant.0, kept_with (standing inside.known.steps).kept answer.rev node user answer.value inside.kept c.keep-kept.new.self right.0 right.1 c.keep-kept.ensures.no_other c.self.invariant.1)

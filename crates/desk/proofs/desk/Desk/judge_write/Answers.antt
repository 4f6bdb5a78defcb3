use Rattle.std.proofs.Common.{◌≡◌, ◌∙◌, ap, subst}
use Rattle.std.specs.Prelude.{OnOk}
use Rattle.verdict.specs.Verdict.{AcceptsWrite}
use Rattle.shown.specs.Standing.{Standing, standing}
use Rattle.desk.proofs.desk.Desk.judge_write.Goals as goal

pub returns-clause-ok : goal.returns-clause-ok
returns-clause-ok g c =
    let stands : c.self.inside.own ≡ standing c.args.self.now.posted = c.self.invariant.stands ∙ ap standing (ap (λ d. d.posted) c.self.view_is) in
    subst (λ (s : Standing). OnOk c.judge_write.result (AcceptsWrite s.kept c.args.write.now)) stands c.judge_write.ensures.ok

use Rattle.std.proofs.Common.{subst}
use Rattle.std.specs.Prelude.{OnOk}
use Rattle.verdict.specs.Verdict.{AcceptsWrite}
use Rattle.shown.specs.Standing.{Standing}
use Rattle.shown.proofs.shown.Shown.judge_write.Goals as goal

pub returns-clause-ok : goal.returns-clause-ok
returns-clause-ok c =
    subst (λ (s : Standing). OnOk c.judge.result (AcceptsWrite s.kept c.args.write.now)) c.self.view_is c.judge.ensures.ok

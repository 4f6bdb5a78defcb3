use Rattle.std.proofs.Common.{◌≡◌, ◌∙◌, ap, subst}
use Rattle.std.specs.Prelude.{IfErr, OnOk}
use Rattle.names.specs.declared.refusal.Refusal.TheVariants.{Memory}
use Rattle.shown.specs.declared.step.Step.TheVariants.{Rebase}
use Rattle.desk.specs.Posts.{Posts, PostsStep}
use Rattle.desk.proofs.Accepting.{unlike, not_ready, base_refused, base_still, install_accepted, not_posted}
use Rattle.desk.specs.declared.desk.Posted.{Posted}
use Rattle.desk.proofs.desk.Desk.install.Goals as goal

pub returns-in_err-make_ready-clause-err : goal.returns-in_err-make_ready-clause-err
returns-in_err-make_ready-clause-err g c =
    let ready = c.in_err-make_ready.ensures in
    not_ready g.T.Tables c.args.self.now c.make_ready.new.self ready.more ready.same ready.settled _ _ c.from_residual.result c.in_err-make_ready.field-0.0 c.from_residual.ensures.1 ready.err

pub returns-in_err-judge_base-clause-err : goal.returns-in_err-judge_base-clause-err
returns-in_err-judge_base-clause-err g c =
    let ready = c.in_ok-make_ready.ensures in
    base_refused g.T.Tables c.args.self.now c.make_ready.new.self ready.more ready.same ready.settled ready.ok c.from_residual-in_err-judge_base.result c.args.base c.in_err-judge_base.field-0.0
    c.from_residual-in_err-judge_base.ensures.1 c.in_err-judge_base.ensures.err

pub returns-clause-ok : goal.returns-clause-ok
returns-clause-ok g c =
    let ready = c.in_ok-make_ready.ensures in
    let done = c.rebase.ensures in
    let kept = c.hand_in.ensures in
    install_accepted g.T.Tables c.args.self.now c.make_ready.new.self ready.more ready.same ready.settled ready.ok c.rebase.new.self c.args.base c.in_ok-judge_base.ensures.ok
    (λ (p : Posted). p.value) (λ (p : Posted). p.receipt) c.rebase.result
    (subst (λ (d : Posts g.row.T.Denot). OnOk c.rebase.result (PostsStep d (Rebase c.args.base) c.rebase.new.self)) kept done.posted)
    (done.same.0 ∙ ap (λ (d : Posts g.row.T.Denot). d.tables) kept) done.same.1 done.told done.tells

pub returns-clause-err : goal.returns-clause-err
returns-clause-err g c =
    let ready = c.in_ok-make_ready.ensures in
    let still = base_still g.T.Tables c.args.self.now c.make_ready.new.self ready.more ready.same ready.settled ready.ok c.rebase.new.self c.args.base c.in_ok-judge_base.ensures.ok in
    not_posted g.T.Tables c.args.self.now c.make_ready.new.self ready.more ready.same ready.settled ready.ok c.rebase.new.self _ c.rebase.result (unlike still)
    (subst (λ (d : Posts g.row.T.Denot). IfErr c.rebase.result (λ why. (why ≡ Memory) × (c.rebase.new.self ≡ d))) c.hand_in.ensures c.rebase.ensures.err)

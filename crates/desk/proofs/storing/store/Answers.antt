use Rattle.std.proofs.Common.{◌≡◌, ◌∷◌, [], ap, sym, subst, ◌∙◌, inr}
use Rattle.names.specs.declared.commit.Commit.{Commit}
use Rattle.names.specs.declared.refusal.Refusal.{Refusal}
use Rattle.meaning.specs.Config.{Configured}
use Rattle.rows.specs.Retained.{Retained}
use Rattle.tables.specs.Changing.{with_change}
use Rattle.shown.specs.declared.step.Step.TheVariants as steps
use Rattle.shown.specs.Standing.{Standing, after_step, before_commit, CanGoBack}
use Rattle.desk.specs.inside.Latching.{AgreeWith, IsUnstored}
use Rattle.desk.specs.inside.Changing.{plain, step_of, CanTakeBack}
use Rattle.desk.proofs.Accepting.{refused_exit}
use Rattle.desk.proofs.Changing.{changed_alike, stepped_alike, can_change}
use Rattle.desk.proofs.Standings.{back_again}
use Rattle.desk.proofs.storing.store.Goals as goal

-- ---- a commit

pub change-requires-clause-can : goal.change-requires-clause-can
change-requires-clause-can g c = (c.args.own.now.kept, c.requires.agrees.holds c.requires.works, c.requires.can)

pub back-requires : goal.back-requires
back-requires g c =
    let own = c.args.own.now in
    let done : c.apply.new.self ≡ after_step own (steps.Commit c.in-Commit.commit) =
    c.in_ok-apply-in-Commit.ensures.ok ∙ ap (λ (m : Commit Configured). after_step own (steps.Commit m)) c.in_ok-again-in-Commit.ensures in
    subst CanGoBack (sym done) (subst (CanTakeBack own) c.in-Commit.is c.requires.back)

pub returns-in-Ok-clause-held : goal.returns-in-Ok-clause-held
returns-in-Ok-clause-held g c =
    let own = c.args.own.now in
    let step = ap steps.Commit c.in_ok-again-in-Commit.ensures ∙ sym (ap step_of c.in-Commit.is) in
    let kept : c.apply.new.self.kept ≡ with_change own.kept c.args.change =
    ap (λ (s : Standing). s.kept) (c.in_ok-apply-in-Commit.ensures.ok ∙ ap (after_step own) step) ∙ stepped_alike own c.args.change in
    subst (λ (r : Retained). g.T.Tables.holds c.change.new.self.tables r) (sym kept) (c.in-Ok.ensures.held own.kept c.requires.agrees c.requires.can)

pub returns-in-Ok-clause-settled : goal.returns-in-Ok-clause-settled
returns-in-Ok-clause-settled g c =
    let own = c.args.own.now in
    let step = ap steps.Commit c.in_ok-again-in-Commit.ensures ∙ sym (ap step_of c.in-Commit.is) in
    let kept : c.apply.new.self.kept ≡ with_change own.kept c.args.change =
    ap (λ (s : Standing). s.kept) (c.in_ok-apply-in-Commit.ensures.ok ∙ ap (after_step own) step) ∙ stepped_alike own c.args.change in
    subst (λ (r : Retained). g.T.Tables.leaves c.change.new.self.tables (r ∷ [])) (sym kept) (c.in-Ok.ensures.settled own.kept c.requires.agrees c.requires.can)

pub returns-in-Commit-clause-agrees : goal.returns-in-Commit-clause-agrees
returns-in-Commit-clause-agrees g c =
    let own = c.args.own.now in
    let back : c.back.new.self ≡ own = c.back.ensures ∙ ap before_commit c.in_ok-apply-in-Commit.ensures.ok ∙ back_again own c.in_ok-again-in-Commit.field-0 in
    subst (λ (s : Standing). AgreeWith g.T.Tables c.change.new.self s.kept) (sym back)
    (c.in-Err.ensures.unstored own.kept c.requires.agrees c.requires.can (can_change own c.args.change c.requires.room))

pub returns-in-Commit-clause-err : goal.returns-in-Commit-clause-err
returns-in-Commit-clause-err g c =
    let own = c.args.own.now in
    record {
      latched = c.in-Err.ensures.err;
      touched = inr (λ rs left. subst (λ (r : Retained). g.T.Tables.leaves c.change.new.self.tables (r ∷ rs)) (changed_alike own.kept c.args.change)
          (c.change.ensures.left own.kept rs c.requires.agrees c.requires.can left));
    }

-- ---- a higher floor

pub change-requires-in-Trim-clause-can : goal.change-requires-in-Trim-clause-can
change-requires-in-Trim-clause-can g c = (c.args.own.now.kept, c.requires.agrees.holds c.requires.works, c.requires.can)

pub returns-clause-held : goal.returns-clause-held
returns-clause-held g c =
    let own = c.args.own.now in
    let kept : c.raise.new.self.kept ≡ with_change own.kept c.args.change =
    ap (λ (s : Standing). s.kept) (c.raise.ensures ∙ ap (after_step own) (sym (ap step_of c.in-Trim.is))) ∙ stepped_alike own c.args.change in
    subst (λ (r : Retained). g.T.Tables.holds c.change-in-Trim.new.self.tables r) (sym kept) (c.in_ok-change-in-Trim.ensures.held own.kept c.requires.agrees c.requires.can)

pub returns-clause-settled : goal.returns-clause-settled
returns-clause-settled g c =
    let own = c.args.own.now in
    let kept : c.raise.new.self.kept ≡ with_change own.kept c.args.change =
    ap (λ (s : Standing). s.kept) (c.raise.ensures ∙ ap (after_step own) (sym (ap step_of c.in-Trim.is))) ∙ stepped_alike own c.args.change in
    subst (λ (r : Retained). g.T.Tables.leaves c.change-in-Trim.new.self.tables (r ∷ [])) (sym kept) (c.in_ok-change-in-Trim.ensures.settled own.kept c.requires.agrees c.requires.can)

pub returns-in_err-change-in-Trim-clause-err : goal.returns-in_err-change-in-Trim-clause-err
returns-in_err-change-in-Trim-clause-err g c =
    let own = c.args.own.now in
    refused_exit (λ (why : Refusal). IsUnstored g.T.Tables own.kept (plain c.args.change) c.args.tables.now why c.change-in-Trim.new.self)
    c.from_residual-in_err-change-in-Trim.result c.in_err-change-in-Trim.field-0.0 c.from_residual-in_err-change-in-Trim.ensures.1
    (record {
      latched = c.in_err-change-in-Trim.ensures.err;
      touched = inr (λ rs left. subst (λ (r : Retained). g.T.Tables.leaves c.change-in-Trim.new.self.tables (r ∷ rs)) (changed_alike own.kept c.args.change)
          (c.change-in-Trim.ensures.left own.kept rs c.requires.agrees c.requires.can left));
    })

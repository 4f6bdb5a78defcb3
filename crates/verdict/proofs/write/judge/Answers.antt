use Rattle.std.proofs.Common.{◌∙◌, sym, subst, ap, arith, length, List, ◌≡◌, false}
use Rattle.std.specs.Prelude.{IfErr, OnOk, Option, Some}
use Rattle.names.specs.declared.write.Op.{Op}
use Rattle.names.specs.declared.write.Condition.{Condition}
use Rattle.zookie.specs.declared.Zookie.{Zookie}
use Rattle.rows.specs.Retained.{newest_of}
use Rattle.rows.specs.Follows.{IsAccepted}
use Rattle.rows.specs.Judging.{WriteRefused}
use Rattle.verdict.specs.Verdict.{RefusesWrite, condition_cause}
use Rattle.verdict.proofs.Judging.{before, failed, exit}
use Rattle.verdict.proofs.write.judge.Goals as goal

pub returns-then-comes_before-clause-err : goal.returns-then-comes_before-clause-err
returns-then-comes_before-clause-err c =
    let r = c.args.rows.now in let w = c.args.write.now in
    before r w (omega (arith, ap length c.as_slice-conditions.ensures, c.if-conditions-gt-MAX_CONDITIONS.false)) c.verdict-judged.result (sym c.comes_before.ensures ∙ c.if-comes_before.true)
    (subst (λ (ops : List Op). IfErr c.verdict-judged.result (WriteRefused (newest_of r) ops)) c.as_slice.ensures c.verdict-judged.ensures.err)

pub returns-in_err-judge_conditions-clause-err : goal.returns-in_err-judge_conditions-clause-err
returns-in_err-judge_conditions-clause-err c =
    let r = c.args.rows.now in let w = c.args.write.now in
    let why = c.in_err-judge_conditions.field-0.0 in
    exit (RefusesWrite r w) c.from_residual.result why c.from_residual.ensures.1
    (failed r w (omega (arith, ap length c.as_slice-conditions.ensures, c.if-conditions-gt-MAX_CONDITIONS.false)) c.verdict-judged.result why (sym c.comes_before.ensures ∙ c.if-comes_before.false)
    (subst (λ (ops : List Op). OnOk c.verdict-judged.result (IsAccepted (newest_of r) ops)) c.as_slice.ensures c.verdict-judged.ensures.ok)
    (subst (λ (ops : List Op). IfErr c.verdict-judged.result (WriteRefused (newest_of r) ops)) c.as_slice.ensures c.verdict-judged.ensures.err)
    (subst (λ (cs : List (Condition Zookie)). condition_cause r cs ≡ Some why) c.as_slice-conditions.ensures c.in_err-judge_conditions.ensures.err))

use Rattle.std.proofs.Common.{refl, sym, ◌∙◌}
use mathlib.Core.List.{IsPrefix}
use Rattle.published.proofs.Prefixes.{prefix_self}
use Rattle.published.proofs.Rising.{rise}
use Rattle.published.proofs.Rules.{begins_self}
use Rattle.calls.specs.steps.Ask.{asks_nothing}
use Rattle.calls.specs.steps.Change.{changes_nothing}
use Rattle.calls.proofs.answer.answer_on.Goals.{then-is_change+in-Ok, then-is_change+in-Err, else-is_change+in-Ok-question_of, else-is_change+in-Err-question_of}
use Rattle.calls.proofs.answer.answer_on.Goals as goal

pub returns-clause-step : goal.returns-clause-step
returns-clause-step g c = elim c.if-is_change.branch [
  | then-is_change+in-Ok w ↦ rw (w.desk-is, w.reply-is, sym c.is_change.ensures ∙ w.if-is_change.true) (w.change_on.ensures.step _ _ w.in-Ok.ensures.ok)
  | then-is_change+in-Err w ↦ rw (w.desk-is, w.reply-is, sym c.is_change.ensures ∙ w.if-is_change.true) (changes_nothing w.in-Err.why w.in-Err.ensures.err w.refusal.ensures refl)
  | else-is_change+in-Ok-question_of w ↦
      rw (w.desk-is, w.reply-is, sym c.is_change.ensures ∙ w.if-is_change.false) (w.question_on.ensures.step _ _ w.in-Ok-question_of.ensures.ok)
  | else-is_change+in-Err-question_of w ↦
      rw (w.desk-is, w.reply-is, sym c.is_change.ensures ∙ w.if-is_change.false)
      (asks_nothing w.in-Err-question_of.why w.in-Err-question_of.ensures.err w.refusal-in-Err-question_of.ensures refl)
]

pub returns-clause-kept : goal.returns-clause-kept
returns-clause-kept g c = elim c.if-is_change.branch [
  | then-is_change+in-Ok w ↦ rw w.session-is w.change_on.ensures.kept
  | then-is_change+in-Err w ↦ rw w.session-is (begins_self c.args.session.now)
  | else-is_change+in-Ok-question_of w ↦ rw w.session-is w.question_on.ensures.kept
  | else-is_change+in-Err-question_of w ↦ rw w.session-is (begins_self c.args.session.now)
]

pub returns-clause-known : goal.returns-clause-known
returns-clause-known g c = elim c.if-is_change.branch [
  | then-is_change+in-Ok w ↦ rw (w.desk-is, w.session-is) w.change_on.ensures.known
  | then-is_change+in-Err w ↦ rw (w.desk-is, w.session-is) c.requires
  | else-is_change+in-Ok-question_of w ↦ rw (w.desk-is, w.session-is) w.question_on.ensures.known
  | else-is_change+in-Err-question_of w ↦ rw (w.desk-is, w.session-is) c.requires
]

pub returns-clause-rises : goal.returns-clause-rises
returns-clause-rises g c =
    let later : IsPrefix c.args.desk.now.shown c.if-is_change.desk.shown = elim c.if-is_change.branch [
      | then-is_change+in-Ok w ↦ rw w.desk-is w.change_on.ensures.later
      | then-is_change+in-Err w ↦ rw w.desk-is (prefix_self c.args.desk.now.shown)
      | else-is_change+in-Ok-question_of w ↦ rw w.desk-is w.question_on.ensures.later
      | else-is_change+in-Err-question_of w ↦ rw w.desk-is (prefix_self c.args.desk.now.shown)
    ] in
    rise c.args.desk.now.shown c.if-is_change.desk.shown c.see.ensures.judged.shown_were c.see-2.ensures.judged.shown_were later

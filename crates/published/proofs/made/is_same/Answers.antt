use Rattle.std.proofs.Common.{sym, ◌∙◌, ap, true≢false}
use Rattle.std.proofs.lemmas.Slice.Eq.{slice_eq-Decides, bytes_eq-Decides}
use Rattle.config_text.specs.Canonical.{config_text}
use Rattle.by_subject.proofs.Pages.{tuples_tie}
use Rattle.published.proofs.Vouching.{tuple_decides, tuples_tell, texts_tell}
use Rattle.published.proofs.made.is_same.Goals.{then-eq, else-eq}
use Rattle.published.proofs.made.is_same.Goals as goal

pub returns : goal.returns
returns c =
    let texts = bytes_eq-Decides c.in_ok-text.text.bytes.items c.in_ok-others.others.bytes.items in
    let is_a = c.in_ok-text.ensures.text ∙ ap config_text c.config.ensures.config in
    let is_b = c.in_ok-others.ensures.text ∙ ap config_text c.config-2.ensures.config in
    elim c.if-eq.branch [
      | then-eq w ↦ tuples_tell c.args.one.now c.args.other.now _ _ is_a is_b w.tuples.result.now w.tuples-then-eq.result.now w.tuples.ensures.tuples w.tuples-then-eq.ensures.tuples (texts.0 (sym c.eq.ensures ∙ w.if-eq.true))
          w.eq-then-eq.result c.if-eq.result (slice_eq-Decides (λ a b. tuple_decides a b _ (tuples_tie a b)) w.tuples.result.now w.tuples-then-eq.result.now w.eq-then-eq.result w.eq-then-eq.ensures) w.result-is
      | else-eq w ↦ texts_tell c.args.one.now c.args.other.now _ _ is_a is_b (λ same. true≢false (sym (texts.1 same) ∙ sym c.eq.ensures ∙ w.if-eq.false)) c.if-eq.result (w.result-is ∙ w.if-eq.false)
    ]

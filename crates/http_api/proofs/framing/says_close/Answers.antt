use Rattle.std.proofs.Common.{length, sym, ap, ◌∙◌, ◌||◌, bytes_eq, codes}
use Rattle.std.specs.List.{list_any}
use Rattle.std.proofs.lemmas.List.Elements.{All-rest}
use Rattle.http_api.specs.Heads.{in_lower_case, is_close, values}
use Rattle.http_api.specs.inside.Finding.{pairs_at}
use Rattle.httparse.specs.Spans.{IsHeaderWithin}
use Rattle.http_api.proofs.Fields.{values_rest, values_first}
use Rattle.http_api.proofs.framing.says_close.Goals as goal
use Rattle.http_api.proofs.framing.says_close.Goals.{else-is_text-via-then-is_text+else-is_text-2, else-is_text-via-else-is_text}

pub loop-field-preserved : goal.loop-field-preserved
loop-field-preserved c =
    let name = codes "connection" in
    let first = c.in-Some.ensures.cases.0 in
    let named = ap (λ t. bytes_eq (in_lower_case t) name) (sym c.of.ensures) ∙ sym c.is_text.ensures in
    let rest = All-rest (IsHeaderWithin (length c.args.bytes.now)) _ _ _ first c.loop-field.invariant.1 in
    elim c.else-is_text.branch [
      | else-is_text-via-then-is_text+else-is_text-2 w ↦
          let other = ap is_close (sym w.of-then-is_text.ensures) ∙ sym w.is_text-then-is_text.ensures ∙ w.if-is_text-2.false in
          let all = ap (list_any is_close) (values_first name _ _ _ _ first (named ∙ w.if-is_text.true)) ∙ ap (λ b. b || list_any is_close (values name (pairs_at c.args.bytes.now c.in-Some.others.now))) other in
          (sym all ∙ c.loop-field.invariant.0, rest)
      | else-is_text-via-else-is_text w ↦ (ap (list_any is_close) (values_rest name _ _ _ _ first (named ∙ w.if-is_text.false)) ∙ c.loop-field.invariant.0, rest)
    ]

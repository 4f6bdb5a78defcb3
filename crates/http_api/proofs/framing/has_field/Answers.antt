use Rattle.std.proofs.Common.{length, sym, ap, ◌∙◌, bytes_eq}
use Rattle.std.proofs.lemmas.List.Elements.{All-rest}
use Rattle.http_api.specs.Heads.{in_lower_case, is_named}
use Rattle.httparse.specs.Spans.{IsHeaderWithin}
use Rattle.http_api.proofs.Fields.{any_rest}
use Rattle.http_api.proofs.framing.has_field.Goals as goal

pub loop-field-preserved : goal.loop-field-preserved
loop-field-preserved c =
    let other = ap (λ t. bytes_eq (in_lower_case t) c.args.name.now) (sym c.of.ensures) ∙ sym c.is_text.ensures ∙ c.if-is_text.false in
    let first = c.in-Some.ensures.cases.0 in
    (any_rest (is_named c.args.name.now) _ _ _ _ first other ∙ c.loop-field.invariant.0, All-rest (IsHeaderWithin (length c.args.bytes.now)) _ _ _ first c.loop-field.invariant.1)

use Rattle.std.proofs.Common.{length, sym, ap, ◌∙◌, ◌∷◌, bytes_eq, codes, List, ℕ}
use Rattle.std.proofs.lemmas.List.Elements.{All-rest}
use Rattle.httparse.specs.Spans.{header_bytes}
use Rattle.http_api.specs.inside.Finding.{pairs_at}
use Rattle.http_api.specs.Heads.{in_lower_case, framing_by}
use Rattle.httparse.specs.Spans.{IsHeaderWithin}
use Rattle.http_api.proofs.Fields.{values_rest, values_first, none_named, some_named, framing_from, framing_by_length}
use Rattle.http_api.proofs.framing.framing_by.Goals as goal

pub returns-then-has_field : goal.returns-then-has_field
returns-then-has_field c =
    let name = codes "content-length" in
    let named = ap (λ t. bytes_eq (in_lower_case t) name) (sym c.of.ensures) ∙ sym c.is_text.ensures ∙ c.if-is_text.true in
    let others = some_named name (pairs_at c.args.bytes.now c.in-Some.others.now) (sym c.has_field.ensures ∙ c.if-has_field.true) in
    sym (ap (framing_by c.args.posts) (sym c.loop-field.invariant.0 ∙ values_first name _ _ _ _ c.in-Some.ensures.cases.0 named ∙ ap (λ (t : List (List ℕ)). (header_bytes c.args.bytes.now c.in-Some.field.now).1 ∷ t) others.2))

pub returns-in-Some-length_of : goal.returns-in-Some-length_of
returns-in-Some-length_of c =
    let name = codes "content-length" in
    let named = ap (λ t. bytes_eq (in_lower_case t) name) (sym c.of.ensures) ∙ sym c.is_text.ensures ∙ c.if-is_text.true in
    let others = none_named name (pairs_at c.args.bytes.now c.in-Some.others.now) (sym c.has_field.ensures ∙ c.if-has_field.false) in
    let value = rw c.of-then-is_text.ensures at c.length_of.ensures in
    let told = sym (ap framing_from c.in-Some-length_of.is) ∙ framing_by_length _ _ _ value in
    told ∙ sym (ap (framing_by c.args.posts) (sym c.loop-field.invariant.0 ∙ values_first name _ _ _ _ c.in-Some.ensures.cases.0 named ∙ ap (λ (t : List (List ℕ)). (header_bytes c.args.bytes.now c.in-Some.field.now).1 ∷ t) others))

pub returns-in-None : goal.returns-in-None
returns-in-None c =
    let name = codes "content-length" in
    let named = ap (λ t. bytes_eq (in_lower_case t) name) (sym c.of.ensures) ∙ sym c.is_text.ensures ∙ c.if-is_text.true in
    let others = none_named name (pairs_at c.args.bytes.now c.in-Some.others.now) (sym c.has_field.ensures ∙ c.if-has_field.false) in
    let value = rw c.of-then-is_text.ensures at c.length_of.ensures in
    let told = sym (ap framing_from c.in-None.is) ∙ framing_by_length _ _ _ value in
    told ∙ sym (ap (framing_by c.args.posts) (sym c.loop-field.invariant.0 ∙ values_first name _ _ _ _ c.in-Some.ensures.cases.0 named ∙ ap (λ (t : List (List ℕ)). (header_bytes c.args.bytes.now c.in-Some.field.now).1 ∷ t) others))

pub loop-field-preserved : goal.loop-field-preserved
loop-field-preserved c =
    let name = codes "content-length" in
    let other = ap (λ t. bytes_eq (in_lower_case t) name) (sym c.of.ensures) ∙ sym c.is_text.ensures ∙ c.if-is_text.false in
    let first = c.in-Some.ensures.cases.0 in
    (values_rest name _ _ _ _ first other ∙ c.loop-field.invariant.0, All-rest (IsHeaderWithin (length c.args.bytes.now)) _ _ _ first c.loop-field.invariant.1)

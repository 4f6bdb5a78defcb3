use Rattle.std.proofs.Common.{ap, ap₂, sym, ◌∙◌}
use Rattle.std.specs.Prelude.{not, nat_eq}
use Rattle.std.specs.Option.{option_cmp}
use Rattle.std.specs.Ordering.{nat_cmp, eq_by_cmp}
use Rattle.std.specs.Cmp.Lexicographic.{pointwise, slice_cmp}
use Rattle.tuple_keys.proofs.Sameness.{other_namespace, other_id, same_object}
use Rattle.tuple_keys.proofs.subject_ref.SubjectRef.is.Goals as goal

pub returns-then-ne : goal.returns-then-ne
returns-then-ne c =
    other_namespace c.args.self.now c.args.subject.now
    (ap₂ (λ a b. not (pointwise nat_eq a b)) (sym c.namespace.ensures.text) (sym c.as_str.ensures.text) ∙ sym c.ne.ensures ∙ c.if-ne.true)

pub returns-then-ne-2 : goal.returns-then-ne-2
returns-then-ne-2 c =
    other_id c.args.self.now c.args.subject.now
    (ap₂ (λ a b. not (pointwise nat_eq a b)) (sym c.id.ensures.text) (sym c.as_str-2.ensures.text) ∙ sym c.ne-2.ensures ∙ c.if-ne-2.true)

pub returns : goal.returns
returns c =
    same_object c.args.self.now c.args.subject.now
    (ap₂ (λ a b. not (pointwise nat_eq a b)) (sym c.namespace.ensures.text) (sym c.as_str.ensures.text) ∙ sym c.ne.ensures ∙ c.if-ne.false)
    (ap₂ (λ a b. not (pointwise nat_eq a b)) (sym c.id.ensures.text) (sym c.as_str-2.ensures.text) ∙ sym c.ne-2.ensures ∙ c.if-ne-2.false)
    c.is_relation.result
    (c.is_relation.ensures ∙ ap (λ r. eq_by_cmp (option_cmp (slice_cmp nat_cmp)) r c.args.subject.now.relation) c.relation.ensures.text)

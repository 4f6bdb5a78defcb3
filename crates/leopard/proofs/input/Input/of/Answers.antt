use Rattle.std.proofs.Common.{List, sym, subst, ◌∙◌}
use Rattle.std.specs.Prelude.{Contains}
use Rattle.std.specs.List.Sorted.{IsStrictlySortedBy}
use Rattle.std.proofs.lemmas.Bool.{false≢true}
use Rattle.names.specs.Order.{tuple_cmp}
use Rattle.names.specs.declared.tuple.Tuple.{Tuple}
use Rattle.meaning.specs.Admits.{admits}
use Rattle.meaning.proofs.TupleSets.{items_from_list}
use Rattle.config.proofs.Tested.{all_test}
use Rattle.leopard.proofs.Making.{pass_all}
use Rattle.leopard.proofs.input.Input.of.Goals as goal

pub returns-then-not-are_in_order-clause-none : goal.returns-then-not-are_in_order-clause-none
returns-then-not-are_in_order-clause-none c = λ are. c.are_in_order.ensures.no c.if-not-are_in_order.true (subst (IsStrictlySortedBy tuple_cmp) (sym c.deref.ensures.value) are.ordered)

pub returns-then-not-are_admitted-clause-none : goal.returns-then-not-are_admitted-clause-none
returns-then-not-are_admitted-clause-none c = λ are. false≢true (sym c.if-not-are_admitted.true ∙ c.are_admitted.ensures
    ∙ pass_all (admits c.args.config) c.deref-2.result.now (λ t h. are.admitted t (subst (λ (l : List Tuple). Contains l t) c.deref-2.ensures.value h)))

pub invariant_of-result : goal.invariant_of-result
invariant_of-result c = record {
  ordered = subst (IsStrictlySortedBy tuple_cmp) c.deref.ensures.value (c.are_in_order.ensures.yes c.if-not-are_in_order.false);
  admitted = λ t h. all_test (admits c.args.config) c.deref-2.result.now t (sym c.are_admitted.ensures ∙ c.if-not-are_admitted.false)
      (subst (λ (l : List Tuple). Contains l t) (sym c.deref-2.ensures.value) h);
}

pub returns-clause-tuples : goal.returns-clause-tuples
returns-clause-tuples c = items_from_list c.args.tuples.items (subst (IsStrictlySortedBy tuple_cmp) c.deref.ensures.value (c.are_in_order.ensures.yes c.if-not-are_in_order.false))

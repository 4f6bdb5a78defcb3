use Rattle.std.proofs.Common.{ap, ◌∙◌, sym, subst}
use Rattle.std.specs.List.Sorted.{IsStrictlySortedBy}
use Rattle.names.specs.Order.{tuple_cmp}
use Rattle.meaning.specs.Snap.{Snap}
use Rattle.meaning.specs.TupleSet as set
use Rattle.meaning.proofs.TupleSets.{items_from_list}
use Rattle.leopard.proofs.input.Input.tuples.Goals as goal

pub returns-clause-tuples : goal.returns-clause-tuples
returns-clause-tuples c = c.as_slice.ensures.value ∙ sym (items_from_list c.self.inside.tuples.items c.self.invariant.ordered) ∙ ap (λ (s : Snap). set.items s.tuples) c.self.view_is

pub returns-clause-ordered : goal.returns-clause-ordered
returns-clause-ordered c = subst (IsStrictlySortedBy tuple_cmp) (sym c.as_slice.ensures.value) c.self.invariant.ordered

use Rattle.std.proofs.Common.{arith, ap, sym, ◌∙◌, ◌∷◌}
use Rattle.std.specs.Map.Iter.{deref_pair}
use Rattle.shelf.proofs.Walking.{first_inside, others_walk, stays, goes_on}
use Rattle.shelf.proofs.walk.WalkIterator.next.Goals as goal
use Rattle.shelf.proofs.walk.WalkIterator.next.Goals.{then-self-count, else-self-count}

pub overflow_add-self-inside : goal.overflow_add-self-inside
overflow_add-self-inside g c =
    let within = first_inside _ _ c.self.invariant _ _ c.in_ok-block.ensures.cases.0 in
    omega arith

pub entry-entry-requires : goal.entry-entry-requires
entry-entry-requires g c = first_inside _ _ c.self.invariant _ _ c.in_ok-block.ensures.cases.0

pub invariant_of-self-else-self-count : goal.invariant_of-self-else-self-count
invariant_of-self-else-self-count g c = others_walk _ _ c.self.invariant _ _ c.in_ok-block.ensures.cases.0

pub returns-clause-steps : goal.returns-clause-steps
returns-clause-steps g c =
    let e = deref_pair c.entry-entry.result in
    elim c.if-self-count.branch [
      | then-self-count w ↦ stays _ _ c.self.invariant _ _ c.in_ok-block.ensures.cases.0 e _ c.entry-entry.ensures c.self.view_is ∙ ap (λ es. e ∷ es) (sym w.self-is)
      | else-self-count w ↦ goes_on _ _ c.self.invariant _ _ c.in_ok-block.ensures.cases.0 e _ c.entry-entry.ensures c.self.view_is (omega arith) ∙ ap (λ es. e ∷ es) (sym w.self-is)
    ]

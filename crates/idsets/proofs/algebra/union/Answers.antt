use Rattle.std.proofs.Common.{◌≤◌, length, inl, inr}
use Rattle.std.specs.Prelude.{◌⊎◌}
use Rattle.std.proofs.lemmas.List.{take_rest}
use Rattle.idsets.proofs.Merging.{united_left, united_right, united_both, united_rises, united_ids}
use Rattle.idsets.proofs.algebra.union.Goals.{then-walk-test+else-j-right, else-walk-test}
use Rattle.idsets.proofs.algebra.union.Goals as goal

pub walk-preserved-then-left-i : goal.walk-preserved-then-left-i
walk-preserved-then-left-i c = rw c.in_ok-push.ensures.items
    (united_left _ _ _ _ _ c.as_slice-left.ensures.ascending c.as_slice-right.ensures.ascending c.walk-test.true c.if-j-right.true c.if-left-i.true c.walk.invariant)

pub walk-preserved-then-right-j : goal.walk-preserved-then-right-j
walk-preserved-then-right-j c = rw c.in_ok-push-2.ensures.items
    (united_right _ _ _ _ _ c.as_slice-left.ensures.ascending c.as_slice-right.ensures.ascending c.walk-test.true c.if-j-right.true c.if-right-j.true c.walk.invariant)

pub walk-preserved : goal.walk-preserved
walk-preserved c = rw c.in_ok-push-3.ensures.items
    (united_both _ _ _ _ _ c.as_slice-left.ensures.ascending c.as_slice-right.ensures.ascending c.walk-test.true c.if-j-right.true c.if-left-i.false c.if-right-j.false c.walk.invariant)

pub of_ascending-requires : goal.of_ascending-requires
of_ascending-requires c =
    let side : (length c.as_slice-left.result.now ≤ c.walk.i) ⊎ (length c.as_slice-right.result.now ≤ c.walk.j) =
    elim c.walk-test.branch [ then-walk-test+else-j-right w ↦ inr w.if-j-right.false | else-walk-test w ↦ inl w.walk-test.false ] in
    rw (c.in_ok-extend_from_slice-2.ensures.items, c.in_ok-extend_from_slice.ensures.items, take_rest c.as_slice-left.result.now c.walk.i, take_rest c.as_slice-right.result.now c.walk.j)
    (united_rises _ _ _ _ _ c.as_slice-left.ensures.ascending c.as_slice-right.ensures.ascending side c.walk.invariant)

pub returns-clause-members : goal.returns-clause-members
returns-clause-members c = λ id.
    rw (c.of_ascending.ensures, c.in_ok-extend_from_slice-2.ensures.items, c.in_ok-extend_from_slice.ensures.items, take_rest c.as_slice-left.result.now c.walk.i, take_rest c.as_slice-right.result.now c.walk.j, ← c.as_slice-left.ensures.ids, ← c.as_slice-right.ensures.ids)
    (united_ids _ _ _ _ _ c.as_slice-left.ensures.ascending c.as_slice-right.ensures.ascending c.walk.invariant id)

use Rattle.std.proofs.Common.{◌≤◌, length, inl, inr}
use Rattle.std.specs.Prelude.{◌⊎◌}
use Rattle.std.proofs.lemmas.List.{take_rest}
use Rattle.idsets.proofs.Merging.{rest_kept, rest_both, rest_passed, rest_rises, rest_ids}
use Rattle.idsets.proofs.algebra.exclude.Goals.{then-walk-test+else-j-right, else-walk-test}
use Rattle.idsets.proofs.algebra.exclude.Goals as goal

pub walk-preserved-then-left-i : goal.walk-preserved-then-left-i
walk-preserved-then-left-i c = rw c.in_ok-push.ensures.items
    (rest_kept _ _ _ _ _ c.as_slice-left.ensures.ascending c.as_slice-right.ensures.ascending c.walk-test.true c.if-j-right.true c.if-left-i.true c.walk.invariant)

pub walk-preserved-then-right-j : goal.walk-preserved-then-right-j
walk-preserved-then-right-j c =
    rest_passed _ _ _ _ _ c.as_slice-left.ensures.ascending c.as_slice-right.ensures.ascending c.walk-test.true c.if-j-right.true c.if-right-j.true c.walk.invariant

pub walk-preserved : goal.walk-preserved
walk-preserved c =
    rest_both _ _ _ _ _ c.as_slice-left.ensures.ascending c.as_slice-right.ensures.ascending c.walk-test.true c.if-j-right.true c.if-left-i.false c.if-right-j.false c.walk.invariant

pub of_ascending-requires : goal.of_ascending-requires
of_ascending-requires c = rw (c.in_ok-extend_from_slice.ensures.items, take_rest)
    (rest_rises _ _ _ _ _ c.as_slice-left.ensures.ascending c.as_slice-right.ensures.ascending c.walk.invariant)

pub returns-clause-members : goal.returns-clause-members
returns-clause-members c = λ id.
    let side : (length c.as_slice-left.result.now ≤ c.walk.i) ⊎ (length c.as_slice-right.result.now ≤ c.walk.j) =
    elim c.walk-test.branch [ then-walk-test+else-j-right w ↦ inr w.if-j-right.false | else-walk-test w ↦ inl w.walk-test.false ] in
    rw (c.of_ascending.ensures, c.in_ok-extend_from_slice.ensures.items, take_rest, ← c.as_slice-left.ensures.ids, ← c.as_slice-right.ensures.ids)
    (rest_ids _ _ _ _ _ c.as_slice-left.ensures.ascending c.as_slice-right.ensures.ascending side c.walk.invariant id)

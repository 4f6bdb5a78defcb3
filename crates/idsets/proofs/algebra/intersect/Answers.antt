use Rattle.std.proofs.Common.{◌+◌, ap, sym, ◌∙◌, subst, arith}
use Rattle.idsets.proofs.Merging.{IsCommon, common_kept, common_passed}
use Rattle.idsets.proofs.algebra.intersect.Goals.{then-is_in+in_ok-push, else-is_in}
use Rattle.idsets.proofs.algebra.intersect.Goals as goal

pub loop-id-preserved : goal.loop-id-preserved
loop-id-preserved g c = record {
  common = subst (λ many. IsCommon c.as_slice-ids.result.now many c.if-is_in.both.items (c.loop-id.id-index + 1)) (sym c.is_in.ensures.same)
      (elim c.if-is_in.branch [
        | then-is_in+in_ok-push w ↦ common_kept c.as_slice-ids.result.now _ c.loop-id.both.items c.if-is_in.both.items c.loop-id.id-index c.as_slice-ids.ensures.ascending c.loop-id-test.true c.loop-id.invariant.common
            (sym c.is_in.ensures.is ∙ w.if-is_in.true) (ap (λ v. v.items) w.both-is ∙ w.in_ok-push.ensures.items)
        | else-is_in w ↦ common_passed c.as_slice-ids.result.now _ c.loop-id.both.items c.if-is_in.both.items c.loop-id.id-index c.as_slice-ids.ensures.ascending c.loop-id-test.true c.loop-id.invariant.common
            (sym c.is_in.ensures.is ∙ w.if-is_in.false) (ap (λ v. v.items) w.both-is)
      ]);
  same = c.is_in.ensures.same ∙ c.loop-id.invariant.same;
  seeks = omega (arith, c.is_in.ensures.once, c.loop-id.invariant.seeks);
}

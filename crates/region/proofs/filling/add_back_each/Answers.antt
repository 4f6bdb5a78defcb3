use Rattle.std.proofs.Common.{◌≡◌, true, sym, subst, ⊎_elim}
use Rattle.region.specs.Tables.{listed}
use Rattle.region.proofs.Listing.{has_next}
use Rattle.region.proofs.filling.add_back_each.Goals as goal

pub loop-end-preserved : goal.loop-end-preserved
loop-end-preserved c = record {
  grows = λ a b h. c.in_ok-add_back.ensures.grows a b (c.loop-end.invariant.grows a b h);
  there = λ m h. ⊎_elim
      (λ f. c.in_ok-add_back.ensures.grows m c.args.node (c.loop-end.invariant.there m f))
      (λ e. subst (λ k. listed c.add_back.new.back k c.args.node ≡ true) (sym e) c.in_ok-add_back.ensures.there)
      (has_next c.args.ends.now c.loop-end.end-index m _ c.loop-end-test.true h);
}

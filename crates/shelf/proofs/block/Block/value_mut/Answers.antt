use Rattle.std.proofs.Common.{refl, ap, sym, ◌∙◌}
use Rattle.std.specs.List.{slice_get}
use Rattle.shelf.proofs.Blocks.{values_are}
use Rattle.shelf.proofs.Writing.{item_is, value_put}
use Rattle.shelf.proofs.block.Block.value_mut.Goals as goal

pub returns : goal.returns
returns g c = (
  (refl, λ w. value_put _ _ _ _ c.self.view_is c.args.i w, c.self.view_is),
  record {
    writes_back = tt;
    value = item_is c.get_mut.result c.self.inside.values.items c.args.i _ c.get_mut.ensures.variant c.self.inside.values.ok.0 c.get_mut.ensures.value
        ∙ sym (ap (λ vs. slice_get vs c.args.i) (values_are _ _ _ c.self.invariant _ c.self.view_is));
  },
)

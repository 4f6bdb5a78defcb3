use Rattle.std.proofs.Common.{ap, ◌∙◌, arith}
use Rattle.std.specs.BTreeMap.Range.{entries_between}
use Rattle.std.specs.declared.ops.Bound.TheVariants.{Included, Unbounded}
use Rattle.shelf.specs.Texts.{text_cmp}
use Rattle.shelf.proofs.Order.{sorted_block}
use Rattle.shelf.proofs.Skipping.{in_first, in_later}
use Rattle.shelf.proofs.walk.Walk.skip_to.Goals as goal
use Rattle.shelf.proofs.walk.Walk.skip_to.Goals.{then-at-eq0, else-at-eq0}

pub place-place-requires : goal.place-place-requires
place-place-requires g c = sorted_block _ c.near_block_of-at.result _ c.self.invariant.blocks.sorted c.near_block_of-at.ensures.within c.index-blocks-at.is

pub returns : goal.returns
returns g c =
    c.self-2.view_is ∙ c.walk_at.ensures
    ∙ elim c.if-at-eq0.branch [
      | then-at-eq0 w ↦ in_first c.args.least.now c.near_block_of-at.result _ c.near_block_of-at.ensures _ c.index-blocks-at.is c.place-place.result c.place-place.ensures c.if-at-eq0.index c.self.inside.index (omega arith) (w.index-is ∙ w.max-index.ensures)
      | else-at-eq0 w ↦ in_later c.args.least.now c.near_block_of-at.result _ c.near_block_of-at.ensures _ c.index-blocks-at.is c.place-place.result c.place-place.ensures c.if-at-eq0.index c.self.inside.index (omega arith) c.self.invariant.inside w.index-is
    ]
    ∙ ap (entries_between text_cmp (Included c.args.least.now) Unbounded) c.self.view_is

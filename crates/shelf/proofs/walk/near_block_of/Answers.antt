use Rattle.std.proofs.Common.{ap, sym, ◌∙◌, arith}
use Rattle.shelf.specs.Texts.{text_cmp}
use Rattle.shelf.proofs.Order.{blocks_below, blocks_above, begins}
use Rattle.shelf.proofs.walk.near_block_of.Goals as goal

pub block_between-requires-clause-above : goal.block_between-requires-clause-above
block_between-requires-clause-above g c =
    blocks_above c.args.key.now c.args.blocks.now c.steps.high c.requires.filled c.requires.sorted c.steps-test.true
    (ap (λ k. text_cmp k c.args.key.now) (sym (begins c.args.blocks.now c.steps.high _ _ c.steps-test.true c.index-blocks-high.is c.text.ensures)) ∙ sym c.in-Greater.ensures)

pub steps-preserved : goal.steps-preserved
steps-preserved g c = record {
  up = omega arith;
  within = c.steps-test.true;
  below = blocks_below c.args.key.now c.args.blocks.now c.steps.high c.requires.filled c.requires.sorted c.steps-test.true
      (λ is. c.in_default.not-Greater (c.cmp.ensures ∙ ap (λ k. text_cmp k c.args.key.now) (begins c.args.blocks.now c.steps.high _ _ c.steps-test.true c.index-blocks-high.is c.text.ensures) ∙ is));
}

use Rattle.std.proofs.Common.{◌+◌, ◌-◌, ◌/◌, ◌≡◌, suc, drop, arith, ap, sym, subst, ◌∙◌}
use Rattle.shelf.specs.Texts.{text_cmp}
use Rattle.shelf.specs.inside.Places.{AreAbove, joined}
use Rattle.shelf.proofs.Order.{blocks_below, blocks_above, begins}
use Rattle.shelf.proofs.block.block_between.Goals as goal

pub halves-preserved-in-Greater : goal.halves-preserved-in-Greater
halves-preserved-in-Greater g c =
    let mid = c.halves.low + (c.halves.high - c.halves.low) / 2 in
    record {
      up = omega arith;
      within = omega (arith, c.halves.invariant.within);
      below = c.halves.invariant.below;
      above = blocks_above c.args.key.now c.args.blocks.now mid c.requires.filled c.requires.sorted (omega (arith, c.halves.invariant.within))
          (ap (λ k. text_cmp k c.args.key.now) (sym (begins c.args.blocks.now mid _ _ (omega (arith, c.halves.invariant.within)) c.index-blocks-mid.is c.text.ensures)) ∙ sym c.in-Greater.ensures);
    }

pub halves-preserved : goal.halves-preserved
halves-preserved g c =
    let mid = c.halves.low + (c.halves.high - c.halves.low) / 2 in
    record {
      up = omega arith;
      within = c.halves.invariant.within;
      below = blocks_below c.args.key.now c.args.blocks.now mid c.requires.filled c.requires.sorted (omega (arith, c.halves.invariant.within))
          (λ is. c.in_default.not-Greater (c.cmp.ensures ∙ ap (λ k. text_cmp k c.args.key.now) (begins c.args.blocks.now mid _ _ (omega (arith, c.halves.invariant.within)) c.index-blocks-mid.is c.text.ensures) ∙ is));
      above = c.halves.invariant.above;
    }

pub returns : goal.returns
returns g c =
    let last : c.halves.high ≡ suc c.halves.low = omega arith in
    record {
      within = omega (arith, c.halves.invariant.within);
      below = c.halves.invariant.below;
      above = subst (λ n. AreAbove c.args.key.now (joined (drop n c.args.blocks.now))) last c.halves.invariant.above;
    }

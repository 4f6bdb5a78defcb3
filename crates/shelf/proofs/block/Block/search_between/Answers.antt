use Rattle.std.proofs.Common.{◌+◌, ◌-◌, ◌/◌, arith, ap, sym, ◌∙◌, add-one}
use Rattle.shelf.specs.Texts.{text_cmp}
use Rattle.shelf.proofs.Order.{below_to, above_from, turned, same_text}
use Rattle.shelf.proofs.block.Block.search_between.Goals as goal

pub halves-preserved-in-Less : goal.halves-preserved-in-Less
halves-preserved-in-Less g c =
    let mid = c.halves.low + (c.halves.high - c.halves.low) / 2 in
    record {
      up = omega arith;
      within = c.halves.invariant.within;
      below = rw (add-one mid) (below_to c.args.key.now c.args.self.now mid c.requires.sorted (omega (arith, c.halves.invariant.within)) (ap (λ k. text_cmp k c.args.key.now) (sym c.text.ensures) ∙ sym c.in-Less.ensures));
      above = c.halves.invariant.above;
    }

pub returns-in-Equal-clause-ok : goal.returns-in-Equal-clause-ok
returns-in-Equal-clause-ok g c = record {
  within = omega (arith, c.halves.invariant.within);
  same = sym c.text.ensures ∙ same_text c.text.result.now c.args.key.now (sym c.in-Equal.ensures);
}

pub halves-preserved : goal.halves-preserved
halves-preserved g c =
    let mid = c.halves.low + (c.halves.high - c.halves.low) / 2 in
    record {
      up = omega arith;
      within = omega (arith, c.halves.invariant.within);
      below = c.halves.invariant.below;
      above = above_from c.args.key.now c.args.self.now mid c.requires.sorted (omega (arith, c.halves.invariant.within)) (ap (λ k. text_cmp c.args.key.now k) (sym c.text.ensures) ∙ turned c.text.result.now c.args.key.now (sym c.in-Greater.ensures));
    }

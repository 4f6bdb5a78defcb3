use Rattle.std.proofs.Common.{◌+◌, arith, ap, sym, ◌∙◌}
use Rattle.shelf.specs.Texts.{text_cmp}
use Rattle.shelf.proofs.Order.{above_from, turned}
use Rattle.shelf.proofs.block.Block.search_after.Goals as goal

pub returns-in-Greater-clause-err : goal.returns-in-Greater-clause-err
returns-in-Greater-clause-err g c = record {
  within = omega (arith, c.len-count.ensures.len);
  below = c.requires.below;
  above = above_from c.args.key.now c.args.self.now (c.args.i + 1) c.requires.sorted (omega (arith, c.len-count.ensures.len)) (ap (λ k. text_cmp c.args.key.now k) (sym c.text.ensures) ∙ turned c.text.result.now c.args.key.now (sym c.in-Greater.ensures));
}

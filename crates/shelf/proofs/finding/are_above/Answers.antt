use Rattle.std.proofs.Common.{ap, sym, ◌∙◌, arith}
use Rattle.shelf.specs.Texts.{text_cmp}
use Rattle.shelf.proofs.Order.{blocks_below, blocks_above, begins}
use Rattle.shelf.proofs.finding.are_above.Goals as goal

pub returns-in-Greater-clause-above : goal.returns-in-Greater-clause-above
returns-in-Greater-clause-above g c = λ _.
    blocks_above c.args.key.now c.args.blocks.now c.args.at c.requires.filled c.requires.sorted (omega arith)
    (ap (λ k. text_cmp k c.args.key.now) (sym (begins c.args.blocks.now c.args.at _ _ (omega arith) c.index-blocks-at.is c.text.ensures)) ∙ sym c.in-Greater.ensures)

pub returns-in_default-clause-below : goal.returns-in_default-clause-below
returns-in_default-clause-below g c = λ _.
    blocks_below c.args.key.now c.args.blocks.now c.args.at c.requires.filled c.requires.sorted (omega arith)
    (λ is. c.in_default.not-Greater (c.cmp.ensures ∙ ap (λ k. text_cmp k c.args.key.now) (begins c.args.blocks.now c.args.at _ _ (omega arith) c.index-blocks-at.is c.text.ensures) ∙ is))

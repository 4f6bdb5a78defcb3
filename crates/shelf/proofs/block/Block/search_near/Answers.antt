use Rattle.std.proofs.Common.{arith, ap, sym, ◌∙◌, add-one}
use Rattle.shelf.specs.Texts.{text_cmp}
use Rattle.shelf.proofs.Order.{below_to, above_from, turned, same_text}
use Rattle.shelf.proofs.block.Block.search_near.Goals as goal

pub search_after-requires-clause-below : goal.search_after-requires-clause-below
search_after-requires-clause-below g c =
    rw (add-one c.args.near) (below_to c.args.key.now c.args.self.now c.args.near c.requires (omega (arith, c.len.ensures.len)) (ap (λ k. text_cmp k c.args.key.now) (sym c.text.ensures) ∙ sym c.in-Less.ensures))

pub returns-in-Equal-clause-ok : goal.returns-in-Equal-clause-ok
returns-in-Equal-clause-ok g c = record {
  within = omega (arith, c.len.ensures.len);
  same = sym c.text.ensures ∙ same_text c.text.result.now c.args.key.now (sym c.in-Equal.ensures);
}

pub search_between-requires-clause-above : goal.search_between-requires-clause-above
search_between-requires-clause-above g c =
    above_from c.args.key.now c.args.self.now c.args.near c.requires (omega (arith, c.len.ensures.len)) (ap (λ k. text_cmp c.args.key.now k) (sym c.text.ensures) ∙ turned c.text.result.now c.args.key.now (sym c.in-Greater.ensures))

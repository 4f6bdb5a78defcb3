use Rattle.std.proofs.Common.{subst, [], ◌∙◌}
use Rattle.std.proofs.lemmas.List.{get_or_default}
use Rattle.shelf.specs.inside.Places.{IsAt, IsBetween}
use Rattle.shelf.proofs.Order.{sorted_block}
use Rattle.shelf.proofs.finding.find.Goals as goal

pub search_near-requires : goal.search_near-requires
search_near-requires g c = sorted_block c.args.blocks.now c.block_near-at.result c.index-blocks-at.result c.requires.shelf.sorted c.block_near-at.ensures.within c.index-blocks-at.is

pub returns-in-Ok-clause-ok : goal.returns-in-Ok-clause-ok
returns-in-Ok-clause-ok g c = record {
  block = c.block_near-at.ensures;
  there = subst (IsAt c.args.key.now c.in-Ok.i) (c.index-blocks-at.is ∙ get_or_default c.args.blocks.now c.block_near-at.result c.index-blocks-at.result [] c.block_near-at.ensures.within) c.in-Ok.ensures.ok;
}

pub returns-in-Err-clause-err : goal.returns-in-Err-clause-err
returns-in-Err-clause-err g c = (
  c.block_near-at.ensures,
  subst (IsBetween c.args.key.now c.in-Err.i) (c.index-blocks-at.is ∙ get_or_default c.args.blocks.now c.block_near-at.result c.index-blocks-at.result [] c.block_near-at.ensures.within) c.in-Err.ensures.err,
)

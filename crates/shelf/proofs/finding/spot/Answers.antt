use Rattle.std.proofs.Common.{subst, sym, [], ◌∙◌}
use Rattle.std.proofs.lemmas.List.{get_or_default}
use Rattle.shelf.specs.inside.Places.{IsAt, IsBetween}
use Rattle.shelf.proofs.Order.{sorted_block}
use Rattle.shelf.proofs.Spots.{none_there}
use Rattle.shelf.proofs.finding.spot.Goals as goal

pub search-requires : goal.search-requires
search-requires g c = sorted_block c.args.blocks.now c.block_of-at.result c.index-blocks-at.result c.requires.sorted c.block_of-at.ensures.within c.index-blocks-at.is

pub returns-in-Ok : goal.returns-in-Ok
returns-in-Ok g c = record {
  block = c.block_of-at.ensures;
  there = subst (IsAt c.args.key.now c.in-Ok.i) (c.index-blocks-at.is ∙ get_or_default c.args.blocks.now c.block_of-at.result c.index-blocks-at.result [] c.block_of-at.ensures.within) c.in-Ok.ensures.ok;
}

pub returns-in-Err : goal.returns-in-Err
returns-in-Err g c =
    sym (none_there c.args.key.now c.block_of-at.result c.in-Err.field-0 c.args.blocks.now (
      c.block_of-at.ensures,
      subst (IsBetween c.args.key.now c.in-Err.field-0) (c.index-blocks-at.is ∙ get_or_default c.args.blocks.now c.block_of-at.result c.index-blocks-at.result [] c.block_of-at.ensures.within) c.in-Err.ensures.err,
    ))

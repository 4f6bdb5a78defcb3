use Rattle.std.proofs.Common.{◌∙◌}
use Rattle.shelf.proofs.Order.{sorted_block}
use Rattle.shelf.proofs.Looking.{from_place}
use Rattle.shelf.proofs.walk.walk_from.Goals as goal

pub place-index-requires : goal.place-index-requires
place-index-requires g c = sorted_block c.args.blocks.now c.block_of-at.result c.index-blocks-at.result c.requires.sorted c.block_of-at.ensures.within c.index-blocks-at.is

pub returns : goal.returns
returns g c = c.walk_at.ensures ∙ from_place c.args.least.now c.block_of-at.result c.args.blocks.now c.block_of-at.ensures c.index-blocks-at.result c.index-blocks-at.is c.place-index.result c.place-index.ensures

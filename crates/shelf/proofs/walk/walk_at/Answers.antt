use Rattle.std.proofs.Common.{arith}
use Rattle.shelf.proofs.Walking.{walk_inside, walk_next}
use Rattle.shelf.proofs.walk.walk_at.Goals as goal

pub invariant_of-result : goal.invariant_of-result
invariant_of-result g c = walk_inside c.args.blocks.now c.args.at c.args.index c.index-blocks-at.result c.requires.shelf c.requires.within c.index-blocks-at.is (omega arith)

pub invariant_of-result-2 : goal.invariant_of-result-2
invariant_of-result-2 g c = walk_next c.args.blocks.now _ c.requires.shelf

use Rattle.std.proofs.Common.{arith}
use Rattle.shelf.proofs.Blocks.{count_is}
use Rattle.shelf.proofs.block.Block.len.Goals as goal

pub returns : goal.returns
returns g c = omega (arith, count_is _ _ _ c.self.invariant _ c.self.view_is)

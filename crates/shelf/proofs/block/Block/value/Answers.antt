use Rattle.std.proofs.Common.{arith}
use Rattle.shelf.proofs.Blocks.{count_is, value_at}
use Rattle.shelf.proofs.block.Block.value.Goals as goal

pub index-requires : goal.index-requires
index-requires g c = omega (arith, count_is _ _ _ c.self.invariant _ c.self.view_is)

pub returns : goal.returns
returns g c = value_at _ _ _ c.self.invariant _ c.self.view_is c.args.i _ c.requires c.index.ensures

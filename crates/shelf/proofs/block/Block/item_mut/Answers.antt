use Rattle.std.proofs.Common.{refl, arith}
use Rattle.shelf.proofs.Blocks.{count_is, value_at}
use Rattle.shelf.proofs.Writing.{value_put}
use Rattle.shelf.proofs.block.Block.item_mut.Goals as goal

pub index_mut-requires : goal.index_mut-requires
index_mut-requires g c = omega (arith, count_is _ _ _ c.self.invariant _ c.self.view_is)

pub returns : goal.returns
returns g c = (
  (refl, λ w. value_put _ _ _ _ c.self.view_is c.args.i w),
  record { writes_back = tt; value = value_at _ _ _ c.self.invariant _ c.self.view_is c.args.i _ c.requires c.index_mut.ensures.value },
)

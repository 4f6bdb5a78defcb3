use Rattle.std.proofs.Common.{ap, sym, ◌∙◌, Some, arith}
use Rattle.shelf.proofs.Blocks.{count_is, value_at}
use Rattle.shelf.proofs.Writing.{value_put}
use Rattle.shelf.specs.inside.Written.{with_value}
use Rattle.shelf.proofs.block.Block.replace.Goals as goal

pub index_mut-requires : goal.index_mut-requires
index_mut-requires g c = omega (arith, count_is _ _ _ c.self.invariant _ c.self.view_is)

pub returns-clause-old : goal.returns-clause-old
returns-clause-old g c = value_at _ _ _ c.self.invariant _ c.self.view_is c.args.i _ c.requires c.index_mut.ensures.value ∙ ap Some (sym c.replace.ensures.value)

pub returns-clause-new : goal.returns-clause-new
returns-clause-new g c = value_put _ _ _ _ c.self.view_is c.args.i _ ∙ ap (with_value c.args.self.now c.args.i) c.replace.ensures.after

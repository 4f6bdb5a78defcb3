use Rattle.bodies.proofs.Branches.{trees_done}
use Rattle.bodies.proofs.trees.+told.Goals as goal

pub tree_values-returns : goal.tree_values-returns
tree_values-returns t c = trees_done c.args.parts.now c.loop-part.values.items c.loop-part.part-index c.loop-part-test.false c.loop-part.invariant

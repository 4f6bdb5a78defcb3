use Rattle.std.proofs.Common.{◌≡◌, map, length}
use Rattle.region.specs.Rules.{shape_of}
use Rattle.facts.specs.Telling.{each_before, each_shape}
use Rattle.facts.proofs.joining.each_of.Given as goal

abbrev pub invariant-loop-rule : goal.invariant-loop-rule
invariant-loop-rule l = each_before (map shape_of l.rules.items) (shape_of l.each) ≡ each_shape (map shape_of l.fn.rules.items)

abbrev pub decreases-loop-rule : goal.decreases-loop-rule
decreases-loop-rule l = length l.rules.items

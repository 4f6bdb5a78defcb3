use Rattle.std.proofs.Common.{◌≡◌, [], map, length}
use Rattle.least_sets.specs.World.{AnyOf}
use Rattle.region.specs.Rules.{shape_of}
use Rattle.facts.specs.Telling.{any_before}
use Rattle.facts.proofs.joining.any_of.Given as goal

abbrev pub invariant-loop-rule : goal.invariant-loop-rule
invariant-loop-rule l = any_before (map shape_of l.rules.items) (shape_of l.any) ≡ any_before (map shape_of l.fn.rules.items) (AnyOf [])

abbrev pub decreases-loop-rule : goal.decreases-loop-rule
decreases-loop-rule l = length l.rules.items

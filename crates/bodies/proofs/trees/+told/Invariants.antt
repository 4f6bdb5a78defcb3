use Rattle.std.proofs.Common.{◌≡◌, take, map}
use Rattle.serde_json.specs.View.{view}
use Rattle.expand.specs.Viewed.{tree_of}
use Rattle.bodies.specs.Trees.{tree_data}
use Rattle.bodies.proofs.trees.+told.Given as goal

abbrev pub invariant-tree_values-loop-part : goal.invariant-tree_values-loop-part
invariant-tree_values-loop-part l = map view l.values.items ≡ map (λ t. tree_data (tree_of t)) (take l.part-index l.parts)

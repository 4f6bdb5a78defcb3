-- The data that a tree stands for.
use Rattle.std.specs.Prelude.{List, map}
use Rattle.expand.specs.declared.tree.Tree.{Tree, fold-Tree}
use Rattle.expand.specs.declared.tree.Tree.TheOpen.{Tree-F}
use Rattle.expand.specs.UsersetTree.{UsersetTree, UsersetTrees, Opened, One, Closed, Union, Intersection, Exclusion, trees}

abbrev pub tree_step : Tree-F UsersetTree → UsersetTree
tree_step (Tree-F.Opened n t) = Opened n t.value
tree_step (Tree-F.One o) = One o
tree_step (Tree-F.Closed n) = Closed n
tree_step (Tree-F.Union v) = Union (trees v.items)
tree_step (Tree-F.Intersection v) = Intersection (trees v.items)
tree_step (Tree-F.Exclusion a b) = Exclusion a.value b.value

abbrev pub tree_of : Tree → UsersetTree
tree_of = fold-Tree UsersetTree tree_step

abbrev pub trees_of : List Tree → UsersetTrees
trees_of ts = trees (map tree_of ts)

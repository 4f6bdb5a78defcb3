-- Userset trees, as data (Zanzibar, section 2.4).
use Rattle.std.specs.Prelude.{ℕ, ◌+◌, List, [], ◌∷◌}
use Rattle.names.specs.declared.object.Object.{Object}
use Rattle.names.specs.declared.node.Node.{Node}

mutual
  pub data UsersetTree : Type 0 where
    -- a userset, and the tree of its rewrite
    Opened : (node : Node) (below : UsersetTree) → UsersetTree
    One : (object : Object) → UsersetTree
    -- a userset, whose tree is left out
    Closed : (node : Node) → UsersetTree
    Union : (parts : UsersetTrees) → UsersetTree
    Intersection : (parts : UsersetTrees) → UsersetTree
    Exclusion : (base less : UsersetTree) → UsersetTree

  pub data UsersetTrees : Type 0 where
    none : UsersetTrees
    more : (first : UsersetTree) (others : UsersetTrees) → UsersetTrees

abbrev pub trees : List UsersetTree → UsersetTrees
trees [] = none
trees (t ∷ ts) = more t (trees ts)

-- how many trees stand in it, itself included
abbrev mutual
  pub tree_nodes : UsersetTree → ℕ
  tree_nodes (Opened n t) = 1 + tree_nodes t
  tree_nodes (One o) = 1
  tree_nodes (Closed n) = 1
  tree_nodes (Union ts) = 1 + trees_nodes ts
  tree_nodes (Intersection ts) = 1 + trees_nodes ts
  tree_nodes (Exclusion a b) = 1 + (tree_nodes a + tree_nodes b)

  pub trees_nodes : UsersetTrees → ℕ
  trees_nodes none = 0
  trees_nodes (more t ts) = tree_nodes t + trees_nodes ts

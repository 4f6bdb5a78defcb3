-- Userset trees as JSON.
use Rattle.std.specs.Prelude.{ℕ, List, [], ◌∷◌, codes}
use Rattle.serde_json.specs.Data.{Data, string, array, Items, no_items, item}
use Rattle.names.specs.Spelling.{node_text, object_text}
use Rattle.expand.specs.UsersetTree.{UsersetTree, UsersetTrees, Opened, One, Closed, Union, Intersection, Exclusion, none, more}
use Rattle.bodies.specs.Replies.{object_of}

-- `{"of": tree, "userset": node}` is an opened userset and `{"userset": node}` a closed one; `{"user": object}`;
-- `{"union": [tree, ..]}`, `{"intersection": [tree, ..]}`, `{"exclusion": [tree, tree]}`
abbrev mutual
  pub tree_data : UsersetTree → Data
  tree_data (Opened n t) = object_of ((codes "of", tree_data t) ∷ (codes "userset", string (node_text n)) ∷ [])
  tree_data (One o) = object_of ((codes "user", string (object_text o)) ∷ [])
  tree_data (Closed n) = object_of ((codes "userset", string (node_text n)) ∷ [])
  tree_data (Union ts) = object_of ((codes "union", array (trees_data ts)) ∷ [])
  tree_data (Intersection ts) = object_of ((codes "intersection", array (trees_data ts)) ∷ [])
  tree_data (Exclusion a b) = object_of ((codes "exclusion", array (item (tree_data a) (item (tree_data b) no_items))) ∷ [])

  pub trees_data : UsersetTrees → Items
  trees_data none = no_items
  trees_data (more t ts) = item (tree_data t) (trees_data ts)

-- `{"tree": tree, "zookie": ..}`
abbrev pub expanded_data : UsersetTree → List ℕ → Data
expanded_data t zookie = object_of ((codes "tree", tree_data t) ∷ (codes "zookie", string zookie) ∷ [])

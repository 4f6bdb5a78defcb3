-- The values of trees.
use Rattle.std.proofs.Common.{◌≡◌, ℕ, ◌≤◌, false, List, [], ◌∷◌, Result, Ok, Err, IfOk, length, take, map, refl, ap, ◌∙◌}
use Rattle.std.specs.declared.alloc.AllocError.{AllocError}
use Rattle.serde_json.specs.Data.{item}
use Rattle.serde_json.specs.View.{view, items_view, items_of}
use Rattle.serde_json.specs.Written.{has_float, items_have_float}
use Rattle.serde_json.specs.declared.value.Value.{Value}
use Rattle.config_text.proofs.Written.{take_whole}
use Rattle.expand.specs.declared.tree.Tree.{Tree}
use Rattle.expand.specs.UsersetTree.{UsersetTree, UsersetTrees, Opened, One, Closed, Union, Intersection, Exclusion, none, more}
use Rattle.expand.specs.Viewed.{tree_of, trees_of}
use Rattle.bodies.specs.Trees.{tree_data, trees_data, expanded_data}

trees_items : (ts : List Tree) → items_of (map (λ t. tree_data (tree_of t)) ts) ≡ trees_data (trees_of ts)
trees_items [] = refl
trees_items (t ∷ ts) = ap (item (tree_data (tree_of t))) (trees_items ts)

pub trees_done : (ts : List Tree) (vs : List Value) (i : ℕ) → length ts ≤ i → map view vs ≡ map (λ t. tree_data (tree_of t)) (take i ts) → items_view vs ≡ trees_data (trees_of ts)
trees_done ts vs i end h = ap items_of (h ∙ ap (map (λ t. tree_data (tree_of t))) (take_whole ts i end)) ∙ trees_items ts

mutual
  tree_plain : (t : UsersetTree) → has_float (tree_data t) ≡ false
  tree_plain (Opened n t) = rw (tree_plain t) refl
  tree_plain (One o) = refl
  tree_plain (Closed n) = refl
  tree_plain (Union ts) = rw (trees_plain ts) refl
  tree_plain (Intersection ts) = rw (trees_plain ts) refl
  tree_plain (Exclusion a b) = rw (tree_plain a, tree_plain b) refl

  trees_plain : (ts : UsersetTrees) → items_have_float (trees_data ts) ≡ false
  trees_plain none = refl
  trees_plain (more t ts) = rw (tree_plain t, trees_plain ts) refl

pub expanded_plain : (t : UsersetTree) (zookie : List ℕ) → has_float (expanded_data t zookie) ≡ false
expanded_plain t zookie = rw (tree_plain t) refl

-- What was made of the room for nodes.
use Rattle.std.specs.Prelude.{◌≡◌, ℕ, ◌+◌, ◌<◌, List, [], ◌∷◌}
use Rattle.meaning.specs.Config.{Defined}
use Rattle.config_text.specs.Size.{form_nodes}
use Rattle.names.specs.declared.refusal.Refusal.{Refusal}
use Rattle.names.specs.declared.refusal.Refusal.TheVariants.{TooLarge, Memory}
use Rattle.expand.specs.declared.tree.Tree.{Tree}
use Rattle.expand.specs.declared.walk.Source.{Source}
use Rattle.expand.specs.declared.walk.Walk.{Walk}
use Rattle.expand.specs.UsersetTree.{UsersetTree, UsersetTrees, tree_nodes, trees_nodes}
use Rattle.expand.specs.Viewed.{tree_of, trees_of}

-- the configuration is the view's
abbrev pub IsSource : Source → Type 0
IsSource s = s.config.now ≡ s.view.now.config

-- the same nodes are open, and the room is smaller by so many nodes
pub record Spends (before after : Walk) (nodes : ℕ) : Type 0 where
  pub path : after.path.items ≡ before.path.items
  pub room : before.room ≡ after.room + nodes

-- the tree that was wanted was made
pub record IsMade (before after : Walk) (wanted : UsersetTree) (made : Tree) : Type 0 where
  pub same : tree_of made ≡ wanted
  pub spends : Spends before after (tree_nodes wanted)

pub record AreMade (before after : Walk) (wanted : UsersetTrees) (made : List Tree) : Type 0 where
  pub same : trees_of made ≡ wanted
  pub spends : Spends before after (trees_nodes wanted)

-- there is no room for so many nodes, or no memory
abbrev pub NoRoom : Walk → ℕ → Refusal → Type 0
NoRoom before nodes TooLarge = before.room < nodes
NoRoom before nodes Memory = Unit {0}
NoRoom before nodes _ = ⊥

abbrev pub IsRefused : Walk → UsersetTree → Refusal → Type 0
IsRefused before wanted = NoRoom before (tree_nodes wanted)

abbrev pub AreRefused : Walk → UsersetTrees → Refusal → Type 0
AreRefused before wanted = NoRoom before (trees_nodes wanted)

-- the nodes of all rewrites
abbrev pub all_nodes : List Defined → ℕ
all_nodes [] = 0
all_nodes (d ∷ ds) = form_nodes d.form + all_nodes ds

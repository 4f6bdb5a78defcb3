-- Why a node's tree is refused.
use Rattle.std.specs.Prelude.{◌≡◌, ℕ, ◌<◌, true, false}
use Rattle.names.specs.declared.node.Node.{Node}
use Rattle.names.specs.declared.refusal.Refusal.{Refusal}
use Rattle.names.specs.declared.refusal.Refusal.TheVariants.{UnknownRelation, TooLarge, Memory}
use Rattle.meaning.specs.Config.{rel_of}
use Rattle.meaning.specs.Admits.{has_relation}
use Rattle.meaning.specs.Snap.{Snap}
use Rattle.expand.specs.declared.limits.TheConstants.{MAX_TREE_NODES}
use Rattle.expand.specs.UsersetTree.{tree_nodes}
use Rattle.expand.specs.Tree.{tree}

-- The node's relation is not in the configuration; or it is, and the tree has too many nodes; or there was no memory.
abbrev pub ExpandCause : Snap → Node → ℕ → Refusal → Type 0
ExpandCause S n depth UnknownRelation = has_relation S.config (rel_of n) ≡ false
ExpandCause S n depth TooLarge = (has_relation S.config (rel_of n) ≡ true) × (MAX_TREE_NODES < tree_nodes (tree S n depth))
ExpandCause S n depth Memory = Unit {0}
ExpandCause S n depth _ = ⊥

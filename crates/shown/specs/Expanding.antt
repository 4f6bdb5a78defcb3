-- What an expand is answered, and why it is refused.
use Rattle.std.specs.Prelude.{◌≡◌, ◌↔◌, ◌≤◌, ◌<◌, ℕ, true, Option, Some, None}
use Rattle.names.specs.declared.node.Node.{Node}
use Rattle.names.specs.declared.object.Object.{Object}
use Rattle.names.specs.declared.refusal.Refusal.{Refusal}
use Rattle.names.specs.declared.refusal.Refusal.TheVariants.{UnknownRelation, TooLarge, Memory}
use Rattle.meaning.specs.Snap.{Snap}
use Rattle.meaning.specs.Config.{rel_of}
use Rattle.meaning.specs.Admits.{has_relation}
use Rattle.meaning.specs.Membership.{IsMember}
use Rattle.rows.specs.Retained.{newest, snap_at}
use Rattle.zookie.specs.declared.consistency.Consistency.{Consistency}
use Rattle.zookie.specs.Fits.{IsFirstCause}
use Rattle.expand.specs.declared.limits.TheConstants.{MAX_TREE_NODES}
use Rattle.expand.specs.declared.tree.Tree.{Tree}
use Rattle.expand.specs.UsersetTree.{UsersetTree, tree_nodes}
use Rattle.expand.specs.Tree.{tree}
use Rattle.expand.specs.Meaning.{Means}
use Rattle.expand.specs.Viewed.{tree_of}
use Rattle.shown.specs.declared.answer.Answer.{Answer}
use Rattle.shown.specs.declared.answer.Refused.{Refused}
use Rattle.shown.specs.Standing.{Standing}
use Rattle.shown.specs.Answers.{IsAskedAt, IsUnknownAt}

-- It is the tree of the node in the snapshot, with no more nodes than a tree may have, and means the node's members there.
pub record IsTreeOf (S : Snap) (node : Node) (depth : ℕ) (found : UsersetTree) : Type 0 where
  pub same : found ≡ tree S node depth
  pub small : tree_nodes (tree S node depth) ≤ MAX_TREE_NODES
  pub known : has_relation S.config (rel_of node) ≡ true
  pub meaning : (u : Object) → Means S u found ↔ IsMember S u node

-- the answer is at a revision that fits, and is the node's tree there
pub record IsExpanded
    (s : Standing) (consistency : Consistency) (node : Node) (depth rev : ℕ)
    (found : UsersetTree) : Type 0 where
  pub asked : IsAskedAt s consistency rev
  pub tree_there : IsTreeOf (snap_at s.kept rev) node depth found

-- the node's relation is there at the revision that was chosen, and its tree has too many nodes
pub record IsTooLargeAt
    (s : Standing) (consistency : Consistency) (node : Node) (depth : ℕ) (at : Option ℕ) : Type 0 where
  pub rev : ℕ
  pub at_rev : at ≡ Some rev
  pub asked : IsAskedAt s consistency rev
  pub known : has_relation (snap_at s.kept rev).config (rel_of node) ≡ true
  pub large : MAX_TREE_NODES < tree_nodes (tree (snap_at s.kept rev) node depth)

-- the first cause of the zookie, or else that the relation is not there, or that the tree is too large; or there was
-- no memory
abbrev pub ExpandRefused : Standing → Consistency → Node → (depth : ℕ) → Refusal → Option ℕ → Type 0
ExpandRefused s consistency node depth UnknownRelation at = IsUnknownAt s consistency node at
ExpandRefused s consistency node depth TooLarge at = IsTooLargeAt s consistency node depth at
ExpandRefused s consistency node depth Memory at = at ≡ None
ExpandRefused s consistency node depth why at =
    IsFirstCause consistency s.kept.number s.kept.floor (newest s.kept) why × (at ≡ None)

-- the answer is such a tree, at the revision that it names
abbrev pub IsTree : Standing → Consistency → Node → (depth : ℕ) → Answer Tree → Type 0
IsTree s consistency node depth answer =
    IsExpanded s consistency node depth answer.rev (tree_of answer.value)

-- the question is refused for this, at the revision that is named, if one is
abbrev pub IsTreeRefusal : Standing → Consistency → Node → (depth : ℕ) → Refused → Type 0
IsTreeRefusal s consistency node depth refused =
    ExpandRefused s consistency node depth refused.why refused.at

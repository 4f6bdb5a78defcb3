-- What is read of a node.
use Rattle.std.specs.Prelude.{◌≡◌, ◌↔◌, ℕ, List, Contains, IfSome}
use Rattle.meaning.specs.Snap.{Snap}
use Rattle.meaning.specs.Config.{Has, rel_of}
use Rattle.meaning.specs.Membership.{HasOne, HasSet}
use Rattle.names.specs.declared.object.Object.{Object}
use Rattle.names.specs.declared.node.Node.{Node}
use Rattle.decide.specs.declared.search.Opened.{Opened}
use Rattle.decide.specs.declared.search.Parents.{Parents}

-- the object's node of the relation
abbrev pub node_with : List ℕ → Object → Node
node_with relation o = record { object = o; relation = relation }

-- the nodes of the relation, of the objects that the tupleset's tuples name
abbrev pub AreNodesOf : Snap → Node → List ℕ → List ℕ → List Node → Type 0
AreNodesOf S n tupleset relation nodes =
    (m : Node) → Contains nodes m
    ↔ ((p : Object) × HasOne S (node_with tupleset n.object) p × (node_with relation p ≡ m))

-- the usersets of the node's own tuples, none of which names the user
pub record AreOwn (S : Snap) (u : Object) (n : Node) (sets : List Node) : Type 0 where
  pub direct : HasOne S n u → ⊥
  pub only : (m : Node) → Contains sets m → HasSet S n m
  pub all : (m : Node) → HasSet S n m → Has S.config (rel_of m) → Contains sets m

-- the nodes of one of the node's tuplesets
abbrev pub AreParents : Snap → Node → Parents → Type 0
AreParents S n p = AreNodesOf S n p.tupleset p.relation p.nodes.items

-- what is kept of an opened node is right
pub record IsKept (S : Snap) (u : Object) (e : Opened) : Type 0 where
  pub own : IfSome e.own (λ v. AreOwn S u e.node v.items)
  pub parents : IfSome e.parents (AreParents S e.node)

-- What is told of a node of a snapshot, by numbers.
use Rattle.std.specs.Prelude.{ℕ, ◌≡◌, ◌<◌, true, List, [], ◌∷◌, Some, Contains, length, ◌↔◌}
use Rattle.std.specs.List.{slice_get}
use Rattle.names.specs.declared.object.Object.{Object}
use Rattle.names.specs.declared.node.Node.{Node}
use Rattle.meaning.specs.Snap.{Snap}
use Rattle.meaning.specs.Config.{Configured, Has, rel_of}
use Rattle.meaning.specs.Form.{Form, Forms, none, more}
use Rattle.meaning.specs.Membership.{HasOne}
use Rattle.idsets.specs.Naming.{AreDistinct}
use Rattle.least_sets.specs.World.{Fact, Shape, AnyOf, Either, Both, has, arcs_of}
use Rattle.graphs.specs.Graph.{IsShapeOf, IsFactOf}
use Rattle.facts.specs.Numbers.{Grew, user_at, node_at}

-- the users are those that the node's own tuples name
abbrev pub AreOwn : Snap → (users : ℕ → Object) → Node → (own : List ℕ) → Type 0
AreOwn S users n own = (u : ℕ) → has own u ≡ true ↔ HasOne S n (users u)

-- A fact of the node with this number that the snapshot's graph has. Each node that it names has a number, and so has each user of
-- the node's own tuples; no user has two.
pub record MayTell (S : Snap) (nodes : List Node) (users : List Object) (i : ℕ) (fact : Fact) : Type 0 where
  pub named : (n : Node) × (slice_get nodes i ≡ Some n)
  pub fact_is : IsFactOf S (user_at users) (node_at nodes) (node_at nodes i) fact
  pub own : AreOwn S (user_at users) (node_at nodes i) fact.own
  pub low : (Has S.config (rel_of (node_at nodes i)) → ⊥) → fact.level ≡ 0
  pub within : (m : ℕ) → has (arcs_of fact.shape) m ≡ true → m < length nodes
  pub distinct : AreDistinct users
  pub seen : (u : Object) → HasOne S (node_at nodes i) u → (j : ℕ) × (slice_get users j ≡ Some u)

-- the relation of one of the objects, as far as it has it
abbrev pub IsComputedOf : Configured → List Object → (relation : List ℕ) → Node → Type 0
IsComputedOf config objects relation m = (p : Object) × Contains objects p × Has config (record { namespace = p.namespace; relation = relation })
    × (m ≡ record { object = p; relation = relation })

-- the shape of a rewrite at the node, whose own users are told apart
pub record IsShapeIn (S : Snap) (nodes : List Node) (n : Node) (form : Form) (shape : Shape) : Type 0 where
  pub is : (users : ℕ → Object) (own : List ℕ) → AreOwn S users n own → IsShapeOf S users (node_at nodes) n own form shape
  pub within : (m : ℕ) → has (arcs_of shape) m ≡ true → m < length nodes

-- the shapes of rewrites at the node, one by one
abbrev pub AreShapesIn : Snap → List Node → Node → Forms → List Shape → Type 0
AreShapesIn S nodes n none [] = Unit {0}
AreShapesIn S nodes n none (x ∷ xs) = ⊥
AreShapesIn S nodes n (more w ws) [] = ⊥
AreShapesIn S nodes n (more w ws) (x ∷ xs) = IsShapeIn S nodes n w x × AreShapesIn S nodes n ws xs

-- some of the shapes; each of them
abbrev pub any_before : List Shape → Shape → Shape
any_before [] y = y
any_before (x ∷ xs) y = Either x (any_before xs y)

abbrev pub each_before : List Shape → Shape → Shape
each_before [] y = y
each_before (x ∷ xs) y = Both x (each_before xs y)

abbrev pub each_shape : List Shape → Shape
each_shape [] = AnyOf []
each_shape (x ∷ []) = x
each_shape (x ∷ y ∷ ys) = Both x (each_shape (y ∷ ys))

-- more nodes and users may have numbers, and each has the one that it had
pub record IsLater (nodes nodes' : List Node) (users users' : List Object) : Type 0 where
  pub nodes_grew : Grew nodes nodes'
  pub users_grew : Grew users users'
  pub nodes_distinct : AreDistinct nodes → AreDistinct nodes'
  pub users_distinct : AreDistinct users → AreDistinct users'

-- The graph of nodes that a snapshot makes: the rule of each node, over the numbers of the nodes that its rewrite looks up.
use Rattle.std.specs.Prelude.{ℕ, ◌≡◌, Bool, true, List, [], ◌⊎◌, ◌↔◌}
use Rattle.names.specs.declared.object.Object.{Object}
use Rattle.names.specs.declared.node.Node.{Node}
use Rattle.meaning.specs.Snap.{Snap}
use Rattle.meaning.specs.Form.{Form, Forms, none, more}
use Rattle.meaning.specs.Form as form
use Rattle.meaning.specs.Config.{Defined, Defines, Has, IsAt, rel_of}
use Rattle.meaning.specs.Membership.{HasOne, HasSet, IsMember}
use Rattle.meaning.specs.Reads.{IsValid}
use Rattle.least_sets.specs.World.{Fact, Shape, Own, AnyOf, Reads, Either, Both, Except, has, arcs_of}
use Rattle.least_sets.specs.Least.{IsLevelled, IsLeastIn}

-- the ids are those of exactly the nodes for which P holds
pub record AreIdsOf (nodes : ℕ → Node) (ids : List ℕ) (P : Node → Type 0) : Type 0 where
  pub sound : (i : ℕ) → has ids i ≡ true → P (nodes i)
  pub complete : (m : Node) → P m → (i : ℕ) × (has ids i ≡ true) × (nodes i ≡ m)

-- the computed node of some object of the tupleset
abbrev pub IsTupleTo : Snap → Node → List ℕ → List ℕ → Node → Type 0
IsTupleTo S n tupleset relation m = (p : Object) × HasOne S (record { object = n.object; relation = tupleset }) p
    × Has S.config (record { namespace = p.namespace; relation = relation }) × (m ≡ record { object = p; relation = relation })

abbrev pub IsNone : Forms → Type 0
IsNone none = Unit {0}
IsNone (more w ws) = ⊥

-- The shape is the rewrite at the node n, over the ids of what it looks up. `own` are the users of n's own tuples.
abbrev mutual
  pub IsShapeOf : Snap → (users : ℕ → Object) → (nodes : ℕ → Node) → Node → (own : List ℕ) → Form → Shape → Type 0
  IsShapeOf S users nodes n own form.This shape =
      (ids : List ℕ) × (shape ≡ Either Own (AnyOf ids)) × ((u : ℕ) → has own u ≡ true ↔ HasOne S n (users u)) × AreIdsOf nodes ids (HasSet S n)
  IsShapeOf S users nodes n own (form.Computed c) shape =
      (ids : List ℕ) × (shape ≡ AnyOf ids) × AreIdsOf nodes ids (λ m. m ≡ record { object = n.object; relation = c })
  IsShapeOf S users nodes n own (form.TupleTo t c) shape =
      (read : List ℕ) × (ids : List ℕ) × (shape ≡ Either (Reads read) (AnyOf ids))
      × AreIdsOf nodes read (λ m. m ≡ record { object = n.object; relation = t }) × AreIdsOf nodes ids (IsTupleTo S n t c)
  IsShapeOf S users nodes n own (form.Union ws) shape = IsAnyOf S users nodes n own ws shape
  IsShapeOf S users nodes n own (form.Intersection ws) shape = IsEachOf S users nodes n own ws shape
  IsShapeOf S users nodes n own (form.Exclusion a b) shape =
      (x : Shape) × (y : Shape) × (shape ≡ Except x y) × IsShapeOf S users nodes n own a x × IsShapeOf S users nodes n own b y

  pub IsAnyOf : Snap → (users : ℕ → Object) → (nodes : ℕ → Node) → Node → (own : List ℕ) → Forms → Shape → Type 0
  IsAnyOf S users nodes n own none shape = shape ≡ AnyOf []
  IsAnyOf S users nodes n own (more w ws) shape =
      (x : Shape) × (y : Shape) × (shape ≡ Either x y) × IsShapeOf S users nodes n own w x × IsAnyOf S users nodes n own ws y

  pub IsEachOf : Snap → (users : ℕ → Object) → (nodes : ℕ → Node) → Node → (own : List ℕ) → Forms → Shape → Type 0
  IsEachOf S users nodes n own none shape = ⊥
  IsEachOf S users nodes n own (more w ws) shape = (IsNone ws × IsShapeOf S users nodes n own w shape)
      ⊎ ((x : Shape) × (y : Shape) × (shape ≡ Both x y) × IsShapeOf S users nodes n own w x × IsEachOf S users nodes n own ws y)

-- a node whose relation is defined has its level and the shape of its rewrite; one whose relation is not defined holds nobody
abbrev pub IsFactOf : Snap → (users : ℕ → Object) → (nodes : ℕ → Node) → Node → Fact → Type 0
IsFactOf S users nodes n fact =
    ((d : Defined) × Defines S.config (rel_of n) d × IsAt S.config n fact.level × IsShapeOf S users nodes n fact.own d.form fact.shape)
    ⊎ ((Has S.config (rel_of n) → ⊥) × (fact.shape ≡ AnyOf []))

-- the facts of the nodes `part` are those of the snapshot, where `users` and `nodes` give what a number stands for
abbrev pub IsGraphOf : Snap → (users : ℕ → Object) → (nodes : ℕ → Node) → (part : ℕ → Bool) → (ℕ → Fact) → Type 0
IsGraphOf S users nodes part world = (n : ℕ) → part n ≡ true → IsFactOf S users nodes (nodes n) (world n)

-- The least sets of a snapshot's graph are its members: whoever a node of a closed part holds is a member of it, and each member is held.
abbrev pub LeastIsMembership : Type 0
LeastIsMembership =
    (S : Snap) (users : ℕ → Object) (nodes : ℕ → Node) (part : ℕ → Bool) (world : ℕ → Fact) (user : ℕ) (set : ℕ → Bool)
    → IsValid S
    → IsGraphOf S users nodes part world
    → IsLevelled world
    → ((n m : ℕ) → part n ≡ true → has (arcs_of (world n).shape) m ≡ true → part m ≡ true)
    → IsLeastIn world part user set
    → (n : ℕ) → part n ≡ true → set n ≡ true ↔ IsMember S (users user) (nodes n)

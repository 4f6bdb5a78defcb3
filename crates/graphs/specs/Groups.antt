-- The group closure of Zanzibar, section 3.2.4: which groups lead to which.
use Rattle.std.specs.Prelude.{ℕ, ◌≡◌, Bool, true, List, ◌⊎◌, ◌↔◌}
use Rattle.names.specs.declared.node.Node.{Node}
use Rattle.meaning.specs.Snap.{Snap}
use Rattle.meaning.specs.Form.{Form, Forms, This, Computed, TupleTo, Union, Intersection, Exclusion, none, more}
use Rattle.meaning.specs.Config.{Defined, Defines, rel_of}
use Rattle.meaning.specs.Membership.{HasSet}
use Rattle.least_sets.specs.World.{has}
use Rattle.least_sets.specs.Least.{IsLeastIn}
use Rattle.least_sets.specs.Groups.{groups}
use Rattle.graphs.specs.Graph.{AreIdsOf}

-- the computed userset of the relation c stands in the rewrite
abbrev mutual
  pub Computes : Form → List ℕ → Type 0
  Computes This c = ⊥
  Computes (Computed r) c = r ≡ c
  Computes (TupleTo t r) c = ⊥
  Computes (Union ws) c = SomeComputes ws c
  Computes (Intersection ws) c = SomeComputes ws c
  Computes (Exclusion a b) c = Computes a c ⊎ Computes b c

  pub SomeComputes : Forms → List ℕ → Type 0
  SomeComputes none c = ⊥
  SomeComputes (more w ws) c = Computes w c ⊎ SomeComputes ws c

-- a tuple g@h is there, or h is a computed userset of g
abbrev pub IsGroupArc : Snap → Node → Node → Type 0
IsGroupArc S g h = HasSet S g h
    ⊎ ((d : Defined) × (c : List ℕ) × Defines S.config (rel_of g) d × Computes d.form c × (h ≡ record { object = g.object; relation = c }))

-- a walk of such arcs, of any length
pub data GroupWalk (S : Snap) (from : Node) : Node → Type 0 where
  here : GroupWalk S from from
  on : {g h : Node} → GroupWalk S from g → IsGroupArc S g h → GroupWalk S from h

-- The least sets over the ids of a snapshot's groups are the ends of walks: whoever is held is reached, and each that is reached is held.
abbrev pub LeastIsClosure : Type 0
LeastIsClosure =
    (S : Snap) (nodes : ℕ → Node) (part : ℕ → Bool) (arcs : ℕ → List ℕ) (end : ℕ) (set : ℕ → Bool)
    → ((i j : ℕ) → part i ≡ true → part j ≡ true → nodes i ≡ nodes j → i ≡ j)
    → ((n : ℕ) → part n ≡ true → AreIdsOf nodes (arcs n) (IsGroupArc S (nodes n)))
    → ((n m : ℕ) → part n ≡ true → has (arcs n) m ≡ true → part m ≡ true)
    → IsLeastIn (groups arcs) part end set
    → (n : ℕ) → part n ≡ true → part end ≡ true → set n ≡ true ↔ GroupWalk S (nodes n) (nodes end)

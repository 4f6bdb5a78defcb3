-- On which nodes a node depends: those that may give it members or take them away, and the node of each tupleset.
use Rattle.std.specs.Prelude.{◌≡◌, List, ◌⊎◌, Contains}
use Rattle.names.specs.declared.node.Node.{Node}
use Rattle.names.specs.declared.commit.Event.{Event}
use Rattle.meaning.specs.Snap.{Snap}
use Rattle.meaning.specs.Form.{Form, Forms, This, Computed, TupleTo, Union, Intersection, Exclusion, none, more}
use Rattle.meaning.specs.Config.{Defined, Defines, rel_of}
use Rattle.meaning.specs.Membership.{HasSet}
use Rattle.graphs.specs.Graph.{IsTupleTo}

-- the rewrite at the node n looks up the node m
abbrev mutual
  pub LooksUp : Snap → Node → Form → Node → Type 0
  LooksUp S n This m = HasSet S n m
  LooksUp S n (Computed c) m = m ≡ record { object = n.object; relation = c }
  LooksUp S n (TupleTo t c) m = (m ≡ record { object = n.object; relation = t }) ⊎ IsTupleTo S n t c m
  LooksUp S n (Union ws) m = SomeLookUp S n ws m
  LooksUp S n (Intersection ws) m = SomeLookUp S n ws m
  LooksUp S n (Exclusion a b) m = LooksUp S n a m ⊎ LooksUp S n b m

  pub SomeLookUp : Snap → Node → Forms → Node → Type 0
  SomeLookUp S n none m = ⊥
  SomeLookUp S n (more w ws) m = LooksUp S n w m ⊎ SomeLookUp S n ws m

abbrev pub DependsOn : Snap → Node → Node → Type 0
DependsOn S n m = (d : Defined) × Defines S.config (rel_of n) d × LooksUp S n d.form m

-- walks of dependence, of any length
pub data Leads (S : Snap) (from : Node) : Node → Type 0 where
  here : Leads S from from
  on : {a b : Node} → Leads S from a → DependsOn S a b → Leads S from b

-- a walk of dependence leads to the node of an event
abbrev pub IsTouchedBy : Snap → List Event → Node → Type 0
IsTouchedBy S events n = (e : Event) × Contains events e × Leads S n e.tuple.node

-- What is told of a group, by numbers.
use Rattle.std.specs.Prelude.{ℕ, ◌≡◌, List, Some}
use Rattle.std.specs.List.{slice_get}
use Rattle.names.specs.declared.node.Node.{Node}
use Rattle.meaning.specs.Snap.{Snap}
use Rattle.idsets.specs.Naming.{AreDistinct}
use Rattle.least_sets.specs.World.{Fact}
use Rattle.least_sets.specs.Groups.{groups}
use Rattle.graphs.specs.Groups.{IsGroupArc}
use Rattle.facts.specs.Numbers.{Grew, AreNumbersOf}

-- the group with this number holds itself, and what the ends of its arcs hold; each of these has a number
pub record MayTell (S : Snap) (nodes : List Node) (i : ℕ) (fact : Fact) : Type 0 where
  pub group : Node
  pub named : slice_get nodes i ≡ Some group
  pub arcs : List ℕ
  pub fact_is : fact ≡ groups (λ _. arcs) i
  pub ends : AreNumbersOf nodes arcs (IsGroupArc S group)

-- more nodes may have numbers, and each has the one that it had
pub record IsMore (nodes nodes' : List Node) : Type 0 where
  pub grew : Grew nodes nodes'
  pub distinct : AreDistinct nodes → AreDistinct nodes'

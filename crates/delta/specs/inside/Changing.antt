-- Nodes of a commit's events by their numbers.
use Rattle.std.specs.Prelude.{ℕ, ◌≡◌, true, List, Some, Contains}
use Rattle.std.specs.List.{slice_get}
use Rattle.names.specs.declared.node.Node.{Node}
use Rattle.names.specs.declared.commit.Event.{Event}
use Rattle.least_sets.specs.World.{has}
use Rattle.delta.specs.Layers.{IsOfSet}

-- the numbers are those of the nodes of the events of usersets, as far as they have one
pub record AreOfEvents (nodes : List Node) (events : List Event) (ids : List ℕ) : Type 0 where
  pub sound : (i : ℕ) → has ids i ≡ true → (e : Event) × Contains events e × IsOfSet e.tuple × (slice_get nodes i ≡ Some e.tuple.node)
  pub complete : (e : Event) (i : ℕ) → Contains events e → IsOfSet e.tuple → slice_get nodes i ≡ Some e.tuple.node → has ids i ≡ true

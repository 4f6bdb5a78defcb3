-- Who is asked for arcs in a commit.
use Rattle.std.specs.Prelude.{◌≡◌, ◌⊎◌, ◌++◌, List, Contains}
use Rattle.names.specs.declared.node.Node.{Node}
use Rattle.names.specs.declared.commit.Event.{Event}
use Rattle.meaning.specs.Snap.{Snap}
use Rattle.idsets.specs.Naming.{AreDistinct}
use Rattle.delta.specs.Layers.{IsOfSet, IsNewlyLedTo}

-- an event puts in, or takes out, a tuple by which the group names the members of another node
abbrev pub HasEvent : List Event → Node → Type 0
HasEvent events g = (e : Event) × Contains events e × IsOfSet e.tuple × (e.tuple.node ≡ g)

-- The groups that were asked in a commit of events, after those that were before it: each once, and each has an event or is newly led to. S is the snapshot before the commit, T the one after it.
pub record WereAskedFew (S T : Snap) (events : List Event) (old new : List Node) : Type 0 where
  pub more : List Node
  pub asked_is : new ≡ old ++ more
  pub once : AreDistinct more
  pub few : (n : Node) → Contains more n → HasEvent events n ⊎ IsNewlyLedTo S T events n

-- A view that is asked for nodes, and who was asked for.
use Rattle.std.specs.Prelude.{◌≡◌, ◌++◌, List, Contains}
use Rattle.names.specs.declared.node.Node.{Node}
use Rattle.meaning.specs.Snap.{Snap}
use Rattle.idsets.specs.Naming.{AreDistinct}
use Rattle.hot.specs.declared.nodes.ViewNodes.{ViewNodes}

-- the snapshot of the view that is asked
abbrev pub snap_asked : ViewNodes → Snap
snap_asked nodes = nodes.view.now

-- the nodes that it was asked for, in order
abbrev pub nodes_asked : ViewNodes → List Node
nodes_asked nodes = nodes.asked.items

-- the nodes that were asked, after those that were before: each once, and each is one of these
pub record WereAskedOnly (old new : List Node) (who : Node → Type 0) : Type 0 where
  pub more : List Node
  pub asked_is : new ≡ old ++ more
  pub once : AreDistinct more
  pub only : (n : Node) → Contains more n → who n

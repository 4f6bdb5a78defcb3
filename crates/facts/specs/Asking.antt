-- A view that is asked, as it stands.
use Rattle.std.specs.Prelude.{ℕ, List}
use Rattle.names.specs.declared.object.Object.{Object}
use Rattle.names.specs.declared.node.Node.{Node}
use Rattle.meaning.specs.Snap.{Snap}

-- what the view holds, the nodes and the users that have a number, and the numbers of the nodes that were asked, in order
pub record Asking : Type 0 where
  pub snap : Snap
  pub nodes : List Node
  pub users : List Object
  pub asked : List ℕ

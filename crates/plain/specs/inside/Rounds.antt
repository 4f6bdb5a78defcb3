-- The least list over a level.
use Rattle.std.specs.Prelude.{List, Contains}
use Rattle.names.specs.declared.node.Node.{Node}
use Rattle.meaning.specs.Least.{Gained, LevelRule}

-- held is the least list that has the lower nodes, and each of the nodes that the rule gives from it
pub record IsLeastOver (Gives : Node → (Node → Type 0) → (Node → Type 0) → Type 0) (nodes lower held : List Node) : Type 0 where
  pub remains : (m : Node) → Contains lower m → Contains held m
  pub closed : (m : Node) → Contains nodes m → Gives m (Contains held) (Contains lower) → Contains held m
  pub gained : (m : Node) → Contains held m → Gained (LevelRule (Contains nodes) Gives (Contains lower)) m

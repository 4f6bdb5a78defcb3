use Rattle.std.proofs.Common.{◌≡◌, ℕ, take}
use Rattle.std.specs.List.{list_any}
use Rattle.least_sets.specs.World.{has}
use Rattle.region.specs.Tables.{over}
use Rattle.region.proofs.eval.members_of_any.Given as goal

abbrev pub invariant-loop-node : goal.invariant-loop-node
invariant-loop-node l = (u : ℕ) → has l.ids.items u ≡ list_any (over l.fresh l.kept.rows u) (take l.node-index l.nodes)

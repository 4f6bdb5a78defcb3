use Rattle.std.proofs.Common.{◌≡◌, take}
use Rattle.facts_tests.specs.Known.{low}
use Rattle.facts_tests.proofs.table.low_nodes.Given as goal

abbrev pub invariant-loop-node : goal.invariant-loop-node
invariant-loop-node l = l.low_ones.items ≡ low (take l.node-index l.nodes)

use Rattle.std.proofs.Common.{◌≡◌, ◌+◌, drop, map}
use Rattle.leopard.specs.Exprs.{query_of, queries_of}
use Rattle.leopard.specs.Query.{queries_nodes}
use Rattle.leopard.proofs.expr.+nodes.Given as goal

abbrev pub invariant-all_nodes_left-loop-part : goal.invariant-all_nodes_left-loop-part
invariant-all_nodes_left-loop-part l = queries_nodes (queries_of (map query_of l.parts)) + l.left ≡ queries_nodes (queries_of (map query_of (drop l.part-index l.parts))) + l.nodes

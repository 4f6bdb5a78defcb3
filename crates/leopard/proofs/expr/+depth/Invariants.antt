use Rattle.std.proofs.Common.{◌≤◌, drop, map}
use Rattle.std.specs.Prelude.{◌↔◌}
use Rattle.leopard.specs.Exprs.{query_of, queries_of}
use Rattle.leopard.specs.Query.{queries_depth}
use Rattle.leopard.proofs.expr.+depth.Given as goal

abbrev pub invariant-are_shallow-loop-part : goal.invariant-are_shallow-loop-part
invariant-are_shallow-loop-part l = (queries_depth (queries_of (map query_of (drop l.part-index l.parts))) ≤ l.depth) ↔ (queries_depth (queries_of (map query_of l.parts)) ≤ l.depth)

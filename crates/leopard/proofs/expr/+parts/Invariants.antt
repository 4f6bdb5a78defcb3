use Rattle.std.proofs.Common.{◌≡◌, drop, map}
use Rattle.leopard.specs.Exprs.{query_of, queries_of}
use Rattle.leopard.specs.Query.{all_have_parts}
use Rattle.leopard.proofs.expr.+parts.Given as goal

abbrev pub invariant-all_have_parts-loop-part : goal.invariant-all_have_parts-loop-part
invariant-all_have_parts-loop-part l = all_have_parts (queries_of (map query_of (drop l.part-index l.parts))) ≡ all_have_parts (queries_of (map query_of l.parts))

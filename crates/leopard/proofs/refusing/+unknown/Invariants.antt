use Rattle.std.proofs.Common.{◌≡◌, drop, map}
use Rattle.leopard.specs.Exprs.{query_of, queries_of}
use Rattle.leopard.specs.Causes.{some_name_unknown}
use Rattle.leopard.proofs.refusing.+unknown.Given as goal

abbrev pub invariant-some_name_unknown-loop-part : goal.invariant-some_name_unknown-loop-part
invariant-some_name_unknown-loop-part l = some_name_unknown l.config (queries_of (map query_of (drop l.part-index l.parts))) ≡ some_name_unknown l.config (queries_of (map query_of l.parts))

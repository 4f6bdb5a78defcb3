use Rattle.std.proofs.Common.{arith}
use Rattle.names.proofs.Readings.{read_exit}
use Rattle.serde_json.specs.View.{view}
use Rattle.bodies.proofs.Asking.{asked_none, asked_many, asked_badly, asked_ops}
use Rattle.bodies.proofs.writing.ops_of.Goals.{then-is_empty-via-then-is_empty, then-is_empty-via-else-is_empty+then-len-gt-MAX_OPS}
use Rattle.bodies.proofs.writing.ops_of.Goals as goal

pub returns-then-is_empty-clause-err : goal.returns-then-is_empty-clause-err
returns-then-is_empty-clause-err c ops w = elim c.then-is_empty.branch [
  | then-is_empty-via-then-is_empty b ↦ asked_none (view c.args.value.now) c.in-Some.items.now.items c.in-Some.ensures (grind (arith, c.is_empty.ensures, b.if-is_empty.true, c.in-Some.items.now.ok)) ops w
  | then-is_empty-via-else-is_empty+then-len-gt-MAX_OPS b ↦ asked_many (view c.args.value.now) c.in-Some.items.now.items c.in-Some.ensures (grind (arith, b.len.ensures, b.if-len-gt-MAX_OPS.true, c.in-Some.items.now.ok)) ops w
]

pub returns-clause-ok : goal.returns-clause-ok
returns-clause-ok c =
    rw c.of.ensures (asked_ops (view c.args.value.now) c.in-Some.items.now.items c.in-Some.ensures _
    (grind (arith, c.is_empty.ensures, c.if-is_empty.false, c.in-Some.items.now.ok)) (grind (arith, c.len.ensures, c.if-len-gt-MAX_OPS.false, c.in-Some.items.now.ok)) c.in_ok-ops.ensures.ok)

pub returns-in_err-ops-clause-err : goal.returns-in_err-ops-clause-err
returns-in_err-ops-clause-err c =
    read_exit c.from_residual.result c.in_err-ops.field-0.0 c.from_residual.ensures.1 (asked_badly (view c.args.value.now) c.in-Some.items.now.items c.in-Some.ensures) c.in_err-ops.ensures.err

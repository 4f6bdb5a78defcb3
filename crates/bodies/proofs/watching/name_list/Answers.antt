use Rattle.std.proofs.Common.{arith}
use Rattle.names.proofs.Readings.{read_exit}
use Rattle.bodies.proofs.Naming.{named_none, named_many, named_badly, named}
use Rattle.bodies.proofs.watching.name_list.Goals.{then-is_empty-via-then-is_empty, then-is_empty-via-else-is_empty+then-len-gt-MAX_NAMES}
use Rattle.bodies.proofs.watching.name_list.Goals as goal

pub returns-then-is_empty-clause-err : goal.returns-then-is_empty-clause-err
returns-then-is_empty-clause-err c ns is = elim c.then-is_empty.branch [
  | then-is_empty-via-then-is_empty b ↦ named_none _ c.in-Some.items.now.items c.in-Some.ensures (grind (arith, c.is_empty.ensures, b.if-is_empty.true, c.in-Some.items.now.ok)) ns is
  | then-is_empty-via-else-is_empty+then-len-gt-MAX_NAMES b ↦ named_many _ c.in-Some.items.now.items c.in-Some.ensures (grind (arith, b.len.ensures, b.if-len-gt-MAX_NAMES.true, c.in-Some.items.now.ok)) ns is
]

pub returns-in_err-names-clause-err : goal.returns-in_err-names-clause-err
returns-in_err-names-clause-err c =
    read_exit c.from_residual.result c.in_err-names.field-0.0 c.from_residual.ensures.1 (named_badly _ c.in-Some.items.now.items c.in-Some.ensures) c.in_err-names.ensures.err

pub returns-clause-ok : goal.returns-clause-ok
returns-clause-ok c =
    rw c.of.ensures (named _ c.in-Some.items.now.items c.in-Some.ensures _
    (grind (arith, c.is_empty.ensures, c.if-is_empty.false, c.in-Some.items.now.ok)) (grind (arith, c.len.ensures, c.if-len-gt-MAX_NAMES.false, c.in-Some.items.now.ok)) c.in_ok-names.ensures.ok)
